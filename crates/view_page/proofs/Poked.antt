-- Pokes of a journal: what is written, and what is still to come.
use Rattle.std.proofs.Common.{◌≡◌, ◌∙◌, ℕ, List, [], ◌∷◌, ◌++◌, Bool, true, false, Option, Some, None, refl, sym, ap, append_assoc}
use Rattle.std.specs.Prelude.{codes, Result, Ok, Err, OnOk}
use Rattle.json.specs.Print.{quoted}
use Rattle.text_markup.specs.Text.{comma_if, items_text, shown_bytes}
use Rattle.evm_text.specs.Lines.{text_of, text_lines}
use Rattle.view_page.specs.Pokes.{poke_bytes, poke_item, poke_items, poke_text}

-- a line that is no poke
pub passed : (later : Bool) (line : List ℕ) (lines : List (List ℕ)) (out : List ℕ) → poke_bytes line ≡ None → out ++ items_text later (poke_items lines) ≡ out ++ items_text later (poke_items (line ∷ lines))
passed later line lines out none = ap (λ (found : Option (List ℕ)). out ++ items_text later (poke_item found (poke_items lines))) (sym none)

-- one that is
pub written : (later : Bool) (line bytes : List ℕ) (lines : List (List ℕ)) (old new : List ℕ) → poke_bytes line ≡ Some bytes → new ≡ old ++ poke_text later bytes
    → new ++ items_text true (poke_items lines) ≡ old ++ items_text later (poke_items (line ∷ lines))
written later line bytes lines old new some grown =
    let more = items_text true (poke_items lines) in
    ap (λ (x : List ℕ). x ++ more) grown
    ∙ append_assoc old (poke_text later bytes) more
    ∙ ap (λ (x : List ℕ). old ++ x) (append_assoc (comma_if later) (quoted (shown_bytes bytes)) more)
    ∙ ap (λ (found : Option (List ℕ)). old ++ items_text later (poke_item found (poke_items lines))) (sym some)

-- a line more, of those that were to come
pub goes : (later more : Bool) (line rest behind : List ℕ) (mid new whole : List ℕ) → text_lines rest ≡ line ∷ text_lines behind
    → new ++ items_text more (poke_items (text_lines behind)) ≡ mid ++ items_text later (poke_items (line ∷ text_lines behind))
    → mid ++ items_text later (poke_items (text_lines rest)) ≡ whole
    → new ++ items_text more (poke_items (text_lines behind)) ≡ whole
goes later more line rest behind mid new whole cut told came =
    told ∙ ap (λ (lines : List (List ℕ)). mid ++ items_text later (poke_items lines)) (sym cut) ∙ came

-- none is left
pub ends : {E : Type 0} (result : Result (Unit {0}) E) (later : Bool) (rest mid new whole : List ℕ) → rest ≡ [] → OnOk result (new ≡ mid ++ codes "]")
    → mid ++ items_text later (poke_items (text_lines rest)) ≡ whole → OnOk result (new ≡ whole)
unfolding text_lines text_of
ends (Ok done) later rest mid new whole none grown came =
    grown ∙ ap (λ (x : List ℕ). mid ++ items_text later (poke_items (text_lines x))) (sym none) ∙ came
ends (Err refused) later rest mid new whole none grown came = tt
