-- The texts are what a printer of JSON makes of the tokens of the values.
use Rattle.std.proofs.Common.{◌≡◌, ℕ, suc, ◌≤◌, ◌<◌, Bool, true, false, List, [], ◌∷◌, ◌++◌, map, Some, option_and_then, refl, sym, ap, ap₂, ◌∙◌, append_assoc, append-nil, arith, inl, inr}
use Rattle.json.specs.Token.{Token}
use Rattle.json.specs.Lex.{tokens}
use Rattle.json.specs.Json.{Json, null, boolean, number, string, array, object, Items, no_items, item, Members, no_members, member, value, if_last, max_depth, document}
use Rattle.json.specs.Print.{quoted, ArePrintable}
use Rattle.json.specs.Spaced.{IsGap, AreGaps, print_spaced}
use Rattle.json.specs.Tree.{json_tokens, items_tokens, members_tokens, depth, items_depth, HasNumbers, ItemsHaveNumbers}
use Rattle.json.proofs.Printed.Tokens.{tokens-print_spaced}
use Rattle.json.proofs.Printed.Trees.{value-json_tokens, ArePrintable-json_tokens}
use Rattle.text_markup.specs.Text.{comma_if, text, items_text, members_text, item_lines, listing}

abbrev Spaced : Type 0
Spaced = List (List ℕ × Token)

-- tokens with no gap
abbrev close : List Token → Spaced
close [] = []
close (t ∷ ts) = ([], t) ∷ close ts

close-append : (ts us : List Token) → close (ts ++ us) ≡ close ts ++ close us
close-append [] us = refl
close-append (t ∷ ts) us = ap (λ (ps : Spaced). ([], t) ∷ ps) (close-append ts us)

close-tokens : (ts : List Token) → map (λ p. p.1) (close ts) ≡ ts
close-tokens [] = refl
close-tokens (t ∷ ts) = ap (λ (us : List Token). t ∷ us) (close-tokens ts)

close-gaps : (ts : List Token) → AreGaps (close ts)
close-gaps [] = tt
close-gaps (t ∷ ts) = (tt, close-gaps ts)

-- tokens with a line feed before the first
abbrev lined : List Token → Spaced
lined [] = []
lined (t ∷ ts) = (10 ∷ [], t) ∷ close ts

lined-tokens : (ts : List Token) → map (λ p. p.1) (lined ts) ≡ ts
lined-tokens [] = refl
lined-tokens (t ∷ ts) = ap (λ (us : List Token). t ∷ us) (close-tokens ts)

lined-gaps : (ts : List Token) → AreGaps (lined ts)
lined-gaps [] = tt
lined-gaps (t ∷ ts) = ((inr refl, tt), close-gaps ts)

regroup_member : (q a b c : List ℕ) → (q ++ 58 ∷ []) ++ (a ++ (b ++ c)) ≡ (q ++ 58 ∷ (a ++ b)) ++ c
regroup_member q a b c = append_assoc q _ _ ∙ sym (append_assoc q _ c ∙ ap (λ (s : List ℕ). q ++ 58 ∷ s) (append_assoc a b c))

regroup_item : (q a b c : List ℕ) → q ++ (a ++ (b ++ c)) ≡ (q ++ (a ++ b)) ++ c
regroup_item q a b c = simp append_assoc

apart : (ts us : List Token) (ps : Spaced) → close (ts ++ us) ++ ps ≡ close ts ++ (close us ++ ps)
apart ts us ps = ap (λ (qs : Spaced). qs ++ ps) (close-append ts us) ∙ append_assoc (close ts) (close us) ps

print_member : (k : List ℕ) (j : Json) (ms : Members) (ps : Spaced)
    → print_spaced false (close (json_tokens j) ++ (close (members_tokens ms) ++ ps)) ≡ text j ++ print_spaced true (close (members_tokens ms) ++ ps)
    → print_spaced true (close (members_tokens ms) ++ ps) ≡ members_text true ms ++ print_spaced true ps
    → (quoted k ++ 58 ∷ []) ++ print_spaced false (close (json_tokens j ++ members_tokens ms) ++ ps) ≡ (quoted k ++ 58 ∷ (text j ++ members_text true ms)) ++ print_spaced true ps
print_member k j ms ps first rest =
    let whole = ap (print_spaced false) (apart (json_tokens j) (members_tokens ms) ps) ∙ first in
    ap (λ (s : List ℕ). (quoted k ++ 58 ∷ []) ++ s) (whole ∙ ap (λ (s : List ℕ). text j ++ s) rest) ∙ regroup_member (quoted k) (text j) (members_text true ms) (print_spaced true ps)

mutual
  unfolding print_spaced

  print_value : (later : Bool) (j : Json) (ps : Spaced) → print_spaced later (close (json_tokens j) ++ ps) ≡ comma_if later ++ (text j ++ print_spaced true ps)
  print_value true null ps = refl
  print_value false null ps = refl
  print_value true (boolean true) ps = refl
  print_value false (boolean true) ps = refl
  print_value true (boolean false) ps = refl
  print_value false (boolean false) ps = refl
  print_value true (number n) ps = refl
  print_value false (number n) ps = refl
  print_value true (string s) ps = refl
  print_value false (string s) ps = refl
  print_value true (array js) ps = ap (λ (s : List ℕ). 44 ∷ 91 ∷ s) (print_items false js ps)
  print_value false (array js) ps = ap (λ (s : List ℕ). 91 ∷ s) (print_items false js ps)
  print_value true (object ms) ps = ap (λ (s : List ℕ). 44 ∷ 123 ∷ s) (print_members false ms ps)
  print_value false (object ms) ps = ap (λ (s : List ℕ). 123 ∷ s) (print_members false ms ps)

  print_items : (later : Bool) (js : Items) (ps : Spaced) → print_spaced later (close (items_tokens js) ++ ps) ≡ items_text later js ++ print_spaced true ps
  print_items true no_items ps = refl
  print_items false no_items ps = refl
  print_items later (item j js) ps =
      let rest = close (items_tokens js) ++ ps in
      ap (print_spaced later) (apart (json_tokens j) (items_tokens js) ps) ∙ print_value later j rest
      ∙ ap (λ (s : List ℕ). comma_if later ++ (text j ++ s)) (print_items true js ps) ∙ regroup_item (comma_if later) (text j) (items_text true js) (print_spaced true ps)

  print_members : (later : Bool) (ms : Members) (ps : Spaced) → print_spaced later (close (members_tokens ms) ++ ps) ≡ members_text later ms ++ print_spaced true ps
  print_members true no_members ps = refl
  print_members false no_members ps = refl
  print_members true (member k j ms) ps =
      ap (λ (s : List ℕ). 44 ∷ s) (print_member k j ms ps (print_value false j (close (members_tokens ms) ++ ps)) (print_members true ms ps))
  print_members false (member k j ms) ps = print_member k j ms ps (print_value false j (close (members_tokens ms) ++ ps)) (print_members true ms ps)

-- a line feed before a value
print_line : (later : Bool) (j : Json) (ps : Spaced) → print_spaced later (lined (json_tokens j) ++ ps) ≡ comma_if later ++ 10 ∷ (text j ++ print_spaced true ps)
unfolding print_spaced
print_line true null ps = refl
print_line false null ps = refl
print_line true (boolean true) ps = refl
print_line false (boolean true) ps = refl
print_line true (boolean false) ps = refl
print_line false (boolean false) ps = refl
print_line true (number n) ps = refl
print_line false (number n) ps = refl
print_line true (string s) ps = refl
print_line false (string s) ps = refl
print_line true (array js) ps = ap (λ (s : List ℕ). 44 ∷ 10 ∷ 91 ∷ s) (print_items false js ps)
print_line false (array js) ps = ap (λ (s : List ℕ). 10 ∷ 91 ∷ s) (print_items false js ps)
print_line true (object ms) ps = ap (λ (s : List ℕ). 44 ∷ 10 ∷ 123 ∷ s) (print_members false ms ps)
print_line false (object ms) ps = ap (λ (s : List ℕ). 10 ∷ 123 ∷ s) (print_members false ms ps)

abbrev line_tokens : Items → Spaced
line_tokens no_items = (10 ∷ [], Token.end_array) ∷ []
line_tokens (item j js) = lined (json_tokens j) ++ line_tokens js

regroup_line : (q a b c : List ℕ) → q ++ 10 ∷ (a ++ (b ++ c)) ≡ (q ++ 10 ∷ (a ++ b)) ++ c
regroup_line q a b c = simp append_assoc

print_lines : (later : Bool) (js : Items) (ps : Spaced) → print_spaced later (line_tokens js ++ ps) ≡ item_lines later js ++ print_spaced true ps
unfolding print_spaced
print_lines true no_items ps = refl
print_lines false no_items ps = refl
print_lines later (item j js) ps =
    let rest = line_tokens js ++ ps in
    ap (print_spaced later) (append_assoc (lined (json_tokens j)) (line_tokens js) ps) ∙ print_line later j rest
    ∙ ap (λ (s : List ℕ). comma_if later ++ 10 ∷ (text j ++ s)) (print_lines true js ps) ∙ regroup_line (comma_if later) (text j) (item_lines true js) (print_spaced true ps)

-- ---- a reader finds the tokens, and in them the value

map-append : (ps qs : Spaced) → map (λ p. p.1) (ps ++ qs) ≡ map (λ p. p.1) ps ++ map (λ p. p.1) qs
map-append [] qs = refl
map-append (p ∷ ps) qs = ap (λ (ts : List Token). p.1 ∷ ts) (map-append ps qs)

gaps-append : (ps qs : Spaced) → AreGaps ps → AreGaps qs → AreGaps (ps ++ qs)
gaps-append [] qs h k = k
gaps-append (p ∷ ps) qs h k = (h.0, gaps-append ps qs h.1 k)

line_tokens-tokens : (js : Items) → map (λ p. p.1) (line_tokens js) ≡ items_tokens js
line_tokens-tokens no_items = refl
line_tokens-tokens (item j js) =
    map-append (lined (json_tokens j)) (line_tokens js) ∙ ap₂ (λ (ts us : List Token). ts ++ us) (lined-tokens (json_tokens j)) (line_tokens-tokens js)

line_tokens-gaps : (js : Items) → AreGaps (line_tokens js)
line_tokens-gaps no_items = ((inr refl, tt), tt)
line_tokens-gaps (item j js) = gaps-append (lined (json_tokens j)) (line_tokens js) (lined-gaps (json_tokens j)) (line_tokens-gaps js)

-- what was printed with gaps is the value whose tokens those are
read_spaced : (j : Json) (ps : Spaced) → AreGaps ps → map (λ p. p.1) ps ≡ json_tokens j → HasNumbers j → depth j ≤ 128 → document (print_spaced false ps) ≡ Some j
read_spaced j ps gaps same numbers shallow =
    let printable : ArePrintable (map (λ p. p.1) ps) = rw same (ArePrintable-json_tokens j numbers) in
    ap (option_and_then (λ p. if_last p.0 p.1)) (ap (value max_depth) (tokens-print_spaced ps gaps printable ∙ same ∙ sym (append-nil (json_tokens j))) ∙ value-json_tokens j max_depth [] shallow)

pub document-text : (j : Json) → HasNumbers j → depth j ≤ 128 → document (text j) ≡ Some j
unfolding print_spaced
document-text j numbers shallow =
    let printed : print_spaced false (close (json_tokens j)) ≡ text j = ap (print_spaced false) (sym (append-nil (close (json_tokens j)))) ∙ print_value false j [] ∙ append-nil (text j) in
    ap document (sym printed) ∙ read_spaced j (close (json_tokens j)) (close-gaps (json_tokens j)) (close-tokens (json_tokens j)) numbers shallow

abbrev listing_of : List ℕ → Items → Json
listing_of key js = object (member key (array js) no_members)

abbrev listing_tokens : List ℕ → Items → Spaced
listing_tokens key js = ([], Token.begin_object) ∷ ([], Token.key key) ∷ ([], Token.begin_array) ∷ (line_tokens js ++ ([], Token.end_object) ∷ [])

print_listing : (key : List ℕ) (js : Items) → print_spaced false (listing_tokens key js) ≡ listing key js
unfolding print_spaced
print_listing key js =
    ap (λ (s : List ℕ). 123 ∷ ((quoted key ++ 58 ∷ []) ++ 91 ∷ s)) (print_lines false js (([], Token.end_object) ∷ []))
    ∙ ap (λ (s : List ℕ). 123 ∷ s) (append_assoc (quoted key) (58 ∷ []) (91 ∷ (item_lines false js ++ 125 ∷ [])))

pub document-listing : (key : List ℕ) (js : Items) → ItemsHaveNumbers js → items_depth js ≤ 126 → document (listing key js) ≡ Some (object (member key (array js) no_members))
document-listing key js numbers shallow =
    let ps = listing_tokens key js in
    let last = ([], Token.end_object) ∷ [] in
    let gaps : AreGaps ps = (tt, (tt, (tt, gaps-append (line_tokens js) last (line_tokens-gaps js) (tt, tt)))) in
    let same : map (λ p. p.1) ps ≡ json_tokens (listing_of key js) =
    ap (λ (ts : List Token). Token.begin_object ∷ Token.key key ∷ Token.begin_array ∷ ts) (map-append (line_tokens js) last ∙ ap (λ (ts : List Token). ts ++ Token.end_object ∷ []) (line_tokens-tokens js)) in
    ap document (sym (print_listing key js)) ∙ read_spaced (listing_of key js) ps gaps same (numbers, tt) (omega arith)
