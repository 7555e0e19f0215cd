-- One line more.
use Rattle.std.proofs.Common.{◌≡◌, ℕ, Bool, true, false, ◌&&◌, Option, Some, None, List, [], ◌∷◌, ◌++◌, refl, sym, ◌∙◌, ap, subst}
use Rattle.std.proofs.lemmas.Bool.{and_from, and_parts}
use Rattle.evm_ram.specs.Images.{Contents}
use Rattle.evm_model.specs.Devices.{Attached}
use Rattle.evm_model.specs.State.{State}
use Rattle.evm_diagnostics.specs.evm_debug.LineReading.{line_at}
use Rattle.evm_serve.specs.Sitting.{Sitting}
use Rattle.evm_serve.specs.Scripted.{after_read, after_lines, with_state, booted_by, script_machine, is_one_line, are_lines, IsScripted, IsLineDone}

-- what comes behind goes on from where the others end
goes_behind : (o : Option State) (lines more : List (List ℕ)) (t u : State) → with_state o (after_lines lines) ≡ Some t → ((s : State) → after_lines lines s ≡ Some t → after_lines more s ≡ Some u) → with_state o (after_lines more) ≡ Some u
goes_behind None lines more t u e f = absurd (cc)
goes_behind (Some s) lines more t u e f = f s e

lines_more : (lines : List (List ℕ)) (line : List ℕ) (s t u : State) → after_read (line_at line) t ≡ Some u → after_lines lines s ≡ Some t → after_lines (lines ++ line ∷ []) s ≡ Some u
lines_more [] line s t u h e =
    let same : t ≡ s = cc in
    ap (λ o. with_state o (after_lines [])) (subst (λ x. after_read (line_at line) x ≡ Some u) same h)
lines_more (x ∷ lines) line s t u h e = goes_behind (after_read (line_at x) s) lines (lines ++ line ∷ []) t u e (λ v g. lines_more lines line v t u h g)

script_more : (devices : List Attached) (image : Contents) (lines : List (List ℕ)) (line : List ℕ) (t u : State) → after_read (line_at line) t ≡ Some u → script_machine devices image lines ≡ Some t → script_machine devices image (lines ++ line ∷ []) ≡ Some u
script_more devices image [] line t u h e = absurd (cc)
script_more devices image (x ∷ lines) line t u h e = goes_behind (booted_by devices image (line_at x)) lines (lines ++ line ∷ []) t u e (λ v g. lines_more lines line v t u h g)

each_more : (lines : List (List ℕ)) (line : List ℕ) → is_one_line line ≡ true → are_lines lines ≡ true → are_lines (lines ++ line ∷ []) ≡ true
each_more [] line h e = and_from _ _ h refl
each_more (x ∷ lines) line h e = let parts = and_parts _ _ e in and_from _ _ parts.0 (each_more lines line h parts.1)

pub more : (devices : List Attached) (image : Contents) (old new : Sitting) (line text : List ℕ) → IsLineDone line old new text → IsScripted devices image old → IsScripted devices image new
more devices image old new line text done s = record {
  made = ap (script_machine devices image) done.lines ∙ script_more devices image old.lines line old.machine new.machine done.machine s.made;
  each = ap are_lines done.lines ∙ each_more old.lines line done.one_line s.each;
}

pub first : (devices : List Attached) (image : Contents) (line : List ℕ) (s : Sitting) → is_one_line line ≡ true → booted_by devices image (line_at line) ≡ Some s.machine → s.lines ≡ line ∷ [] → IsScripted devices image s
first devices image line s h booted e = record {
  made = ap (script_machine devices image) e ∙ ap (λ o. with_state o (after_lines [])) booted;
  each = ap are_lines e ∙ and_from _ _ h refl;
}
