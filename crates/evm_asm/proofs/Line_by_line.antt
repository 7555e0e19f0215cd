-- The loops over the lines, labels and numbers of a source do what is defined of them.
use Rattle.std.proofs.Common.{◌≡◌, ℕ, List, [], ◌∷◌, map, Some, cond, Bool, true, false, refl, suc, ◌-◌, ◌+◌, ◌<◌, ◌≤◌, ◌++◌, ap, arith, ◌∙◌, zero, Option, None, not, ◌==◌, nat_lt, length, take, drop, sym, subst, Result, Ok, Err}
use Rattle.std.specs.Option.{option_map, unwrap_or}
use Rattle.std.specs.Str.{bytes_eq}
use Rattle.std.specs.List.{position_or_len}
use Rattle.std.proofs.lemmas.Bool.{ltb-false}
use Rattle.std.proofs.lemmas.List.Sums.{prefix_len-le-length}
use Rattle.evm_asm_parser.specs.evm_asm_lexer.Names.{named}
use Rattle.std.proofs.lemmas.List.{length-take, length-drop}
use Rattle.evm_asm_parser.specs.evm_asm_lexer.Characters.{newline, hash, colon}
use Rattle.evm_asm_parser.specs.evm_asm_lexer.Text.{before, after, has_byte, place_by, tail, first_word, skip_blanks, is_white, is_word_byte}
use Rattle.evm_asm_parser.specs.evm_asm_lexer.declared.source_fault.SourceFaultKind.{SourceFaultKind}
use Rattle.evm_asm_parser.specs.evm_asm_lexer.declared.mnemonic.Section.{Section}
use Rattle.evm_asm_parser.specs.evm_asm_lexer.declared.mnemonic.DataWidth.{DataWidth}
use Rattle.evm_asm_parser.specs.evm_asm_lexer.Faults.{◌>>=◌}
use Rattle.evm_asm_parser.specs.evm_asm_lexer.declared.source_fault.SourceFault.{SourceFault}
use Rattle.evm_asm_parser.specs.declared.spot.Spot.{Spot}
use Rattle.evm_asm_parser.specs.Operands.{Spots, first_operand, other_operands, name_in}
use Rattle.evm_asm.specs.Programs.{repeated}
use Rattle.evm_asm.specs.Sources.{label_at, behind_labels, Defined, with_label, defined, source_lines, in_front, code_of, Laid, laid, with_line_laid, line_laid, first_fault, IsLaid, statement_text}
use Rattle.evm_asm.specs.Kept.{IsKept, AreKept, first_kept, other_kept}
use Rattle.evm_asm_parser.specs.declared.kept.Kept.{Kept}
use Rattle.evm_asm.specs.declared.place.SectionPlace.{SectionPlace}
use Rattle.evm_asm.specs.declared.failure.AssemblyFailure.{AssemblyFailure}
use Rattle.evm_asm.specs.declared.failure.AssemblyFailure.TheVariants as failure
use Rattle.evm_asm.specs.declared.meaning.LineFailure.{LineFailure}
use Rattle.evm_asm.specs.declared.item.Placed.{Placed}
use Rattle.evm_asm.specs.Items.{StopsAsMeant, FailsBy, with_numbers, number_pushed, line_or_fault, lines_meant, and_then}
use Rattle.evm_asm.specs.declared.meaning.LineFailure.TheVariants as stop

-- ---- the address of the label of a name

pub named-addressed : (f : Spot → ℕ) (ls : List (List ℕ × Spot)) (q : List ℕ) → named (map (λ l. (l.0, f l.1)) ls) q ≡ option_map f (named ls q)
named-addressed f [] q = refl
named-addressed f (l ∷ ls) q = by (bytes_eq q l.0) (named-addressed f ls q)
  where
    by : (t : Bool) → named (map (λ l. (l.0, f l.1)) ls) q ≡ option_map f (named ls q)
        → cond t (Some (f l.1)) (named (map (λ l. (l.0, f l.1)) ls) q) ≡ option_map f (cond t (Some l.1) (named ls q))
    by true h = refl
    by false h = h

-- ---- loops that write one thing after another

pub repeated-more : (count i : ℕ) (unit bytes : List ℕ) → i < count → repeated (count - i) unit bytes ≡ repeated (count - (i + 1)) unit (bytes ++ unit)
unfolding repeated
repeated-more count i unit bytes lt =
    let e : count - i ≡ suc (count - (i + 1)) = omega arith in
    ap (λ n. repeated n unit bytes) e

pub repeated-done : (count i : ℕ) (unit bytes : List ℕ) → count ≤ i → repeated (count - i) unit bytes ≡ bytes
unfolding repeated
repeated-done count i unit bytes h =
    let e : count - i ≡ 0 = omega arith in
    ap (λ n. repeated n unit bytes) e

-- what is cut from a text is no longer
take-within : (n : ℕ) (xs : List ℕ) → length (take n xs) ≤ length xs
take-within n xs = omega (length-take n xs, arith)

drop-within : (n : ℕ) (xs : List ℕ) → length (drop n xs) ≤ length xs
drop-within n xs = omega (length-drop n xs, arith)

tail-within : (xs : List ℕ) → length (tail xs) ≤ length xs
tail-within [] = omega arith
tail-within (x ∷ xs) = omega arith

before-within : (c : ℕ) (text : List ℕ) → length (before c text) ≤ length text
unfolding before
before-within c text = take-within _ text

after-within : (c : ℕ) (text : List ℕ) → length (after c text) ≤ length text
unfolding after
after-within c text = let a = tail-within (drop (place_by (λ b. b == c) text) text) in let b = drop-within (place_by (λ b. b == c) text) text in omega arith

word-within : (text : List ℕ) → length (first_word (skip_blanks text)) ≤ length text
unfolding first_word skip_blanks
word-within text =
    let a = take-within (place_by (λ b. not (is_word_byte b)) (drop (place_by (λ b. not (is_white b)) text) text)) (drop (place_by (λ b. not (is_white b)) text) text) in
    let b = drop-within (place_by (λ b. not (is_white b)) text) text in omega arith

named_by : (t : Bool) (x name : List ℕ) → cond t (Some x) None ≡ Some name → x ≡ name
named_by true x name h = cc
named_by false x name h = cc

name-within : (text name : List ℕ) → name_in text ≡ Some name → length name ≤ length text
unfolding name_in
name-within text name h = let a = word-within text in omega (arith, ap (λ (l : List ℕ). length l) (named_by _ (first_word (skip_blanks text)) name h))

label_by : (t : Bool) (o : Option (List ℕ)) (others name rest : List ℕ) → cond t (option_map {U = List ℕ × List ℕ} (λ n. (n, others)) o) None ≡ Some (name, rest) → (o ≡ Some name) × (others ≡ rest)
label_by true (Some n) others name rest h =
    let e : ◌≡◌ {A = List ℕ × List ℕ} (n, others) (name, rest) = cc in
    (ap (λ (p : List ℕ × List ℕ). Some p.0) e, ap (λ (p : List ℕ × List ℕ). p.1) e)
label_by true None others name rest h = cc
label_by false o others name rest h = cc

pub label-within : (text name rest : List ℕ) → label_at text ≡ Some (name, rest) → (length name ≤ length text) × (length rest ≤ length text)
unfolding label_at
label-within text name rest h =
    let is = label_by (has_byte colon text) (name_in (before colon text)) (after colon text) name rest h in
    let a = name-within (before colon text) name is.0 in
    let b = before-within colon text in
    let c = after-within colon text in
    (omega arith, omega (arith, ap (λ (l : List ℕ). length l) is.1))

pub code-within : (rest : List ℕ) → length (code_of (before newline rest)) ≤ length rest
unfolding code_of
code-within rest = let a = before-within hash (before newline rest) in let b = before-within newline rest in omega arith

-- a failure of a part is one of the whole
pub fails-on : {Y Z : Type 0} (most : ℕ) (f : AssemblyFailure) (part : Result Y SourceFault) (whole : Result Z SourceFault) → ((fault : SourceFault) → part ≡ Err fault → whole ≡ Err fault)
    → FailsBy most f part → FailsBy most f whole
fails-on most (failure.Fault fault) part whole g h = g fault h
fails-on most (failure.Memory shortage) part whole g h = h

pub behind_labels-none : (n : ℕ) (text : List ℕ) → label_at text ≡ None → behind_labels n text ≡ text
unfolding behind_labels
behind_labels-none zero text h = refl
behind_labels-none (suc n) text h =
    ap (λ (o : Option (List ℕ × List ℕ)). elim o as (λ _. List ℕ) [ None ↦ text | Some label ↦ behind_labels n label.1 ]) h

pub one_label : (n : ℕ) (text name tail : List ℕ) → label_at text ≡ Some (name, tail) → behind_labels (suc n) text ≡ behind_labels n tail
unfolding behind_labels
one_label n text name tail h =
    ap (λ (o : Option (List ℕ × List ℕ)). elim o as (λ _. List ℕ) [ None ↦ text | Some label ↦ behind_labels n label.1 ]) h

pub behind_labels-some : (count i : ℕ) (text name tail : List ℕ) → i < count → label_at text ≡ Some (name, tail) → behind_labels (count - i) text ≡ behind_labels (count - (i + 1)) tail
behind_labels-some count i text name tail lt h =
    let e : count - i ≡ suc (count - (i + 1)) = omega arith in
    ap (λ n. behind_labels n text) e ∙ one_label (count - (i + 1)) text name tail h

pub behind_labels-done : (count i : ℕ) (text : List ℕ) → count ≤ i → behind_labels (count - i) text ≡ text
unfolding behind_labels
behind_labels-done count i text h =
    let e : count - i ≡ 0 = omega arith in
    ap (λ n. behind_labels n text) e

pub defined-none : (n : ℕ) (spot : Spot) (text : List ℕ) (d : Defined) → label_at text ≡ None → defined n spot text d ≡ d
unfolding defined
defined-none zero spot text d h = refl
defined-none (suc n) spot text d h =
    ap (λ (o : Option (List ℕ × List ℕ)). elim o as (λ _. Defined) [ None ↦ d | Some label ↦ defined n spot label.1 (with_label spot label.0 d) ]) h

pub one_defined : (n : ℕ) (spot : Spot) (text name tail : List ℕ) (d : Defined) → label_at text ≡ Some (name, tail) → defined (suc n) spot text d ≡ defined n spot tail (with_label spot name d)
unfolding defined
one_defined n spot text name tail d h =
    ap (λ (o : Option (List ℕ × List ℕ)). elim o as (λ _. Defined) [ None ↦ d | Some label ↦ defined n spot label.1 (with_label spot label.0 d) ]) h

pub defined-some : (count i : ℕ) (spot : Spot) (text name tail : List ℕ) (d : Defined) → i < count → label_at text ≡ Some (name, tail) → defined (count - i) spot text d ≡ defined (count - (i + 1)) spot tail (with_label spot name d)
defined-some count i spot text name tail d lt h =
    let e : count - i ≡ suc (count - (i + 1)) = omega arith in
    ap (λ n. defined n spot text d) e ∙ one_defined (count - (i + 1)) spot text name tail d h

pub defined-done : (count i : ℕ) (spot : Spot) (text : List ℕ) (d : Defined) → count ≤ i → defined (count - i) spot text d ≡ d
unfolding defined
defined-done count i spot text d h =
    let e : count - i ≡ 0 = omega arith in
    ap (λ n. defined n spot text d) e

-- ---- a source is cut into its lines, and laid out line by line

picked : (n m : ℕ) → n ≤ m → (t : Bool) → nat_lt n m ≡ t → unwrap_or (cond t (Some n) None) m ≡ n
picked n m h true e = refl
picked n m h false e = omega (arith, ltb-false n m e)

place-is : (p : ℕ → Bool) (xs : List ℕ) → place_by p xs ≡ position_or_len p xs
place-is p xs = picked (position_or_len p xs) (length xs) (prefix_len-le-length (λ x. not (p x)) xs) _ refl

place-cons : (c b : ℕ) (bs : List ℕ) (t : Bool) → (b == c) ≡ t → place_by (λ x. x == c) (b ∷ bs) ≡ cond t 0 (suc (place_by (λ x. x == c) bs))
place-cons c b bs true e = place-is (λ x. x == c) (b ∷ bs) ∙ ap (λ t. cond (not t) (1 + position_or_len (λ x. x == c) bs) 0) e
place-cons c b bs false e =
    let one : 1 + position_or_len (λ x. x == c) bs ≡ suc (position_or_len (λ x. x == c) bs) = omega arith in
    place-is (λ x. x == c) (b ∷ bs) ∙ ap (λ t. cond (not t) (1 + position_or_len (λ x. x == c) bs) 0) e ∙ one
    ∙ ap (λ n. suc n) (sym (place-is (λ x. x == c) bs))

before-cons : (c b : ℕ) (bs : List ℕ) (t : Bool) → (b == c) ≡ t → before c (b ∷ bs) ≡ cond t [] (b ∷ before c bs)
unfolding before
before-cons c b bs true e = ap (λ n. take n (b ∷ bs)) (place-cons c b bs true e)
before-cons c b bs false e = ap (λ n. take n (b ∷ bs)) (place-cons c b bs false e)

after-cons : (c b : ℕ) (bs : List ℕ) (t : Bool) → (b == c) ≡ t → after c (b ∷ bs) ≡ cond t bs (after c bs)
unfolding after
after-cons c b bs true e = ap (λ n. tail (drop n (b ∷ bs))) (place-cons c b bs true e)
after-cons c b bs false e = ap (λ n. tail (drop n (b ∷ bs))) (place-cons c b bs false e)

first_line : (b : ℕ) (bs : List ℕ) (t : Bool) → (b == newline) ≡ t → source_lines (b ∷ bs) ≡ cond t ([] ∷ source_lines bs) (in_front b (source_lines bs))
unfolding source_lines
first_line b bs t e = ap (λ t. cond t ([] ∷ source_lines bs) (in_front b (source_lines bs))) e

by_first : (b : ℕ) (bs : List ℕ) (t : Bool) → (b == newline) ≡ t → in_front b (source_lines bs) ≡ (b ∷ before newline bs) ∷ source_lines (after newline bs)
    → source_lines (b ∷ bs) ≡ before newline (b ∷ bs) ∷ source_lines (after newline (b ∷ bs))
by_first b bs true e h =
    first_line b bs true e
    ∙ ap (λ (l : List ℕ). l ∷ source_lines bs) (sym (before-cons newline b bs true e))
    ∙ ap (λ (r : List ℕ). before newline (b ∷ bs) ∷ source_lines r) (sym (after-cons newline b bs true e))
by_first b bs false e h =
    first_line b bs false e ∙ h
    ∙ ap (λ (l : List ℕ). l ∷ source_lines (after newline bs)) (sym (before-cons newline b bs false e))
    ∙ ap (λ (r : List ℕ). before newline (b ∷ bs) ∷ source_lines r) (sym (after-cons newline b bs false e))

nothing_behind : (b : ℕ) → in_front b (source_lines []) ≡ (b ∷ before newline []) ∷ source_lines (after newline [])
unfolding source_lines before after
nothing_behind b = refl

-- a text that isn't empty is its first line, and the lines behind it
pub lines-cut : (b : ℕ) (bs : List ℕ) → source_lines (b ∷ bs) ≡ before newline (b ∷ bs) ∷ source_lines (after newline (b ∷ bs))
lines-cut b [] = by_first b [] (b == newline) refl (nothing_behind b)
lines-cut b (x ∷ xs) = by_first b (x ∷ xs) (b == newline) refl (ap (in_front b) (lines-cut x xs))

none_behind : (c : ℕ) → length (after c []) ≡ 0
unfolding after
none_behind c = refl

shorter : (c b : ℕ) (bs : List ℕ) (t : Bool) → (b == c) ≡ t → length (after c bs) ≤ length bs → length (after c (b ∷ bs)) ≤ length bs
shorter c b bs true e h = omega (arith, ap (λ (l : List ℕ). length l) (after-cons c b bs true e))
shorter c b bs false e h = omega (arith, ap (λ (l : List ℕ). length l) (after-cons c b bs false e))

pub after-shorter : (c b : ℕ) (bs : List ℕ) → length (after c (b ∷ bs)) ≤ length bs
after-shorter c b [] = shorter c b [] (b == c) refl (omega (arith, none_behind c))
after-shorter c b (x ∷ xs) = let h : length (after c (x ∷ xs)) ≤ length xs = after-shorter c x xs in shorter c b (x ∷ xs) (b == c) refl (omega arith)

pub one-line : (s : Laid) (rest : List ℕ) → 0 < length rest → laid s (source_lines rest) ≡ laid (with_line_laid s (before newline rest)) (source_lines (after newline rest))
unfolding laid
one-line s [] h = absurd (omega arith)
one-line s (b ∷ bs) h = ap (λ (ls : List (List ℕ)). laid s ls) (lines-cut b bs)

pub line-is : (s : Laid) (line : List ℕ) (labels : Spots) (next : SectionPlace × Option SourceFaultKind) → (labels, next) ≡ line_laid s.labels s.place (code_of line)
    → with_line_laid s line ≡ record { lines = s.lines + 1; place = next.0; labels = labels; first = first_fault s.first (s.lines + 1) next.1 }
unfolding with_line_laid
line-is s line labels next h =
    ap (λ (o : Spots × (SectionPlace × Option SourceFaultKind)). let r : Laid = record { lines = s.lines + 1; place = o.1.0; labels = o.0; first = first_fault s.first (s.lines + 1) o.1.1 } in r) (sym h)

pub no-lines : (s : Laid) (rest : List ℕ) → length rest ≡ 0 → laid s (source_lines rest) ≡ s
unfolding laid source_lines
no-lines s [] h = refl
no-lines s (b ∷ bs) h = absurd (omega arith)

pub after-less : (c : ℕ) (rest : List ℕ) → 0 < length rest → length (after c rest) + 1 ≤ length rest
after-less c [] h = absurd (omega arith)
after-less c (b ∷ bs) h = let k = after-shorter c b bs in omega arith

-- what is kept of a line, and of those behind it
pub kept-first : (k : Option Kept) (more : List (Option Kept)) (rest : List ℕ) → 0 < length rest → IsKept k (statement_text (code_of (before newline rest)))
    → AreKept more (source_lines (after newline rest)) → AreKept (k ∷ more) (source_lines rest)
unfolding AreKept
kept-first k more [] h one others = absurd (omega arith)
kept-first k more (b ∷ bs) h one others = subst (λ ls. AreKept (k ∷ more) ls) (sym (lines-cut b bs)) (one, others)

pub kept-rest : (kept : List (Option Kept)) (rest : List ℕ) → 0 < length rest → AreKept kept (source_lines rest)
    → IsKept (first_kept kept) (statement_text (code_of (before newline rest))) × AreKept (other_kept kept) (source_lines (after newline rest))
unfolding AreKept
kept-rest kept [] h all = absurd (omega arith)
kept-rest kept (b ∷ bs) h all = subst (λ ls. AreKept kept ls) (lines-cut b bs) all

pub kept-none : (rest : List ℕ) → length rest ≡ 0 → AreKept [] (source_lines rest)
unfolding AreKept source_lines
kept-none [] h = tt
kept-none (b ∷ bs) h = absurd (omega arith)

-- ---- the meaning of a source, item by item and line by line

module _ (labels : Spots) (size : ℕ) (part : Section) (width : DataWidth) (count i : ℕ) (text : List ℕ) (so_far : List Placed) where
  one : i < count → with_numbers labels size part width (count - i) text so_far
      ≡ (number_pushed labels size part width (first_operand text) so_far >>= λ items. with_numbers labels size part width (count - (i + 1)) (other_operands text) items)
  unfolding with_numbers
  one lt =
      let e : count - i ≡ suc (count - (i + 1)) = omega arith in
      ap (λ n. with_numbers labels size part width n text so_far) e

  pub numbers-ok : (items : List Placed) → i < count → number_pushed labels size part width (first_operand text) so_far ≡ Ok items
      → with_numbers labels size part width (count - i) text so_far ≡ with_numbers labels size part width (count - (i + 1)) (other_operands text) items
  numbers-ok items lt h =
      one lt ∙ ap (λ (r : Result (List Placed) SourceFaultKind). r >>= λ items. with_numbers labels size part width (count - (i + 1)) (other_operands text) items) h

  pub numbers-done : count ≤ i → with_numbers labels size part width (count - i) text so_far ≡ Ok so_far
  unfolding with_numbers
  numbers-done h =
      let e : count - i ≡ 0 = omega arith in
      ap (λ n. with_numbers labels size part width n text so_far) e

pub numbers-stop : (s : LineFailure) (labels : Spots) (size : ℕ) (part : Section) (width : DataWidth) (count i : ℕ) (text : List ℕ) (so_far : List Placed) (whole : Result (List Placed) SourceFaultKind)
    → i < count → StopsAsMeant s (number_pushed labels size part width (first_operand text) so_far)
    → with_numbers labels size part width (count - i) text so_far ≡ whole → StopsAsMeant s whole
numbers-stop (stop.Memory asked) labels size part width count i text so_far whole lt h w = h
numbers-stop (stop.Fault kind) labels size part width count i text so_far whole lt h w =
    sym w ∙ one labels size part width count i text so_far lt
    ∙ ap (λ (r : Result (List Placed) SourceFaultKind). r >>= λ items. with_numbers labels size part width (count - (i + 1)) (other_operands text) items) h

pub same-line : (labels : Spots) (place : SectionPlace) (first : Option SourceFault) (l : Laid) → IsLaid labels place first l → (n : ℕ) (at : SectionPlace) (code : List ℕ) (so_far : List Placed)
    → line_or_fault labels place.text_size first n at code so_far ≡ line_or_fault l.labels l.place.text_size l.first n at code so_far
same-line labels place first l h n at code so_far =
    ap (λ (s : Spots). line_or_fault s place.text_size first n at code so_far) h.labels_are
    ∙ ap (λ (p : SectionPlace). line_or_fault l.labels p.text_size first n at code so_far) h.place_is
    ∙ ap (λ (f : Option SourceFault). line_or_fault l.labels l.place.text_size f n at code so_far) h.first_is

module _ (l : Laid) (n : ℕ) (place : SectionPlace) where
  told_line : (rest : List ℕ) (so_far : List Placed) → 0 < length rest
      → lines_meant l n place (source_lines rest) so_far
      ≡ and_then (line_or_fault l.labels l.place.text_size l.first (n + 1) place (code_of (before newline rest)) so_far) (λ x. lines_meant l (n + 1) x.0 (source_lines (after newline rest)) x.1)
  unfolding lines_meant
  told_line [] so_far h = absurd (omega arith)
  told_line (b ∷ bs) so_far h = ap (λ (ls : List (List ℕ)). lines_meant l n place ls so_far) (lines-cut b bs)

  pub goes-on : (rest : List ℕ) (so_far : List Placed) (next : SectionPlace) (items : List Placed) → 0 < length rest
      → line_or_fault l.labels l.place.text_size l.first (n + 1) place (code_of (before newline rest)) so_far ≡ Ok (next, items)
      → lines_meant l n place (source_lines rest) so_far ≡ lines_meant l (n + 1) next (source_lines (after newline rest)) items
  goes-on rest so_far next items h e =
      told_line rest so_far h ∙ ap (λ (r : Result (SectionPlace × List Placed) SourceFault). and_then r (λ x. lines_meant l (n + 1) x.0 (source_lines (after newline rest)) x.1)) e

  pub stops : (rest : List ℕ) (so_far : List Placed) (fault : SourceFault) → 0 < length rest
      → line_or_fault l.labels l.place.text_size l.first (n + 1) place (code_of (before newline rest)) so_far ≡ Err fault
      → lines_meant l n place (source_lines rest) so_far ≡ Err fault
  stops rest so_far fault h e =
      told_line rest so_far h ∙ ap (λ (r : Result (SectionPlace × List Placed) SourceFault). and_then r (λ x. lines_meant l (n + 1) x.0 (source_lines (after newline rest)) x.1)) e

  pub ends : (rest : List ℕ) (so_far : List Placed) → length rest ≡ 0 → lines_meant l n place (source_lines rest) so_far ≡ Ok so_far
  unfolding lines_meant source_lines
  ends [] so_far h = refl
  ends (b ∷ bs) so_far h = absurd (omega arith)
