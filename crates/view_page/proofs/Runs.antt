-- Entries that grow as a journal is walked.
use Rattle.std.proofs.Common.{◌≡◌, ◌≢◌, ℕ, ◌+◌, ◌-◌, ◌<◌, ◌≤◌, ◌^◌, List, [], ◌∷◌, ◌++◌, length, flat_map, refl, sym, ap, subst, ◌∙◌, append_assoc, arith}
use Rattle.std.proofs.lemmas.List.{append-nil}
use Rattle.std.specs.Prelude.{OnOk, Option, Some, None, Result, Ok, Err}
use Rattle.text_markup.specs.Text.{text}
use Rattle.evm_ram.specs.Images.{Contents}
use Rattle.evm_model.specs.Devices.{Attached}
use Rattle.run_marks.specs.declared.mark.Mark.{Mark}
use Rattle.run_walk.specs.declared.item.Item.{Item}
use Rattle.run_walk.specs.Walks.{Follows, IsBegin, IsNext, Walked, place}
use Rattle.view_page.specs.Rows.{row_json}
use Rattle.view_page.specs.Texts.{IsSafe}
use Rattle.view_page.proofs.Loops.{flat-append}
use Rattle.view_page.proofs.Safe.{safe-append, safe-row}
use Rattle.view_page.specs.Entries.{Entry, entries_text, entry_numbers, entry_text, head_numbers, mark_numbers}
use Rattle.view_page.specs.Pages.{AddsRun, IsToldRun, TellsEntries, TellsAll, TellsNext}
use Rattle.view_page.specs.Texts.{run_text}

-- ---- safe
differs : (a : ℕ) → 60 < a → a ≢ 60
differs a h same = omega (arith, h, same)

less : (a : ℕ) → a < 60 → a ≢ 60
less a h same = omega (arith, h, same)

safe-entry : (entry : Entry) → IsSafe (entry_text entry)
unfolding entry_text
safe-entry entry = (less 44 (omega arith), (less 10 (omega arith), safe-row (entry_numbers entry)))

safe-entries : (entries : List Entry) → IsSafe (flat_map entry_text entries)
safe-entries [] = tt
safe-entries (entry ∷ entries) = safe-append (entry_text entry) (flat_map entry_text entries) (safe-entry entry) (safe-entries entries)

pub safe-run : (start : List ℕ) (entries : List Entry) → IsSafe (entries_text start entries)
safe-run start entries = (
  differs 91 (omega arith),
  safe-append (text (row_json start)) (flat_map entry_text entries ++ (93 ∷ [])) (safe-row start)
      (safe-append (flat_map entry_text entries) (93 ∷ []) (safe-entries entries) (differs 93 (omega arith), tt)),
)

-- ---- an entry: its item and its marks, and its details behind them
pub entry-parts : (item : Item) (marks : List Mark) (details : List ℕ)
    → 44 ∷ 10 ∷ text (row_json ((head_numbers item ++ flat_map mark_numbers marks) ++ details)) ≡ entry_text (record { item = item; marks = marks; details = details })
unfolding entry_text entry_numbers
entry-parts item marks details = ap (λ (ns : List ℕ). 44 ∷ 10 ∷ text (row_json ns)) (append_assoc (head_numbers item) (flat_map mark_numbers marks) details)

-- ---- one entry more
pub tells-more : (walk mid to : Walked) (entries : List Entry) (entry : Entry) → TellsEntries walk entries mid → TellsNext mid entry to → TellsEntries walk (entries ++ (entry ∷ [])) to
tells-more walk mid to [] entry told more = (to, subst (λ w. TellsNext w entry to) (sym told) more, refl)
tells-more walk mid to (one ∷ entries) entry told more = (told.0, told.1, tells-more told.0 mid to entries entry told.2 more)

-- what is true of a walk, where it began and the text, behind some entries
pub record Comes (walk mid : Walked) (old new : List ℕ) (at : ℕ) : Type 0 where
  pub entries : List Entry
  pub tells : TellsEntries walk entries mid
  pub text : new ≡ old ++ flat_map entry_text entries
  pub passed : at ≤ place mid
  pub events : mid.events ≡ walk.events

pub begins : (walk : Walked) (old : List ℕ) → Comes walk walk old old (place walk)
begins walk old = record { entries = []; tells = refl; text = sym (append-nil old); passed = omega arith; events = refl }

pub goes : (walk mid to : Walked) (old new next : List ℕ) (at : ℕ) (entry : Entry) → Comes walk mid old new at → TellsNext mid entry to → next ≡ new ++ entry_text entry → Comes walk to old next (at + 1)
goes walk mid to old new next at entry came more written =
    let one = more.next in
    let lines : flat_map entry_text (came.entries ++ (entry ∷ [])) ≡ flat_map entry_text came.entries ++ entry_text entry =
    flat-append entry_text came.entries (entry ∷ []) ∙ ap (λ l. flat_map entry_text came.entries ++ l) (append-nil (entry_text entry)) in
    record {
      entries = came.entries ++ (entry ∷ []);
      tells = tells-more walk mid to came.entries entry came.tells more;
      text = written ∙ ap (λ l. l ++ entry_text entry) came.text ∙ append_assoc old (flat_map entry_text came.entries) (entry_text entry) ∙ ap (λ l. old ++ l) (sym lines);
      passed = let was = came.passed in let here = one.0 in let some = one.1 in let there = one.3 in omega (arith, was, here, some, there);
      events = more.follows.events ∙ came.events;
    }

-- ---- texts that are appended, one behind the other
join : (old a b c : List ℕ) → b ≡ old ++ a → (b ++ c) ≡ old ++ (a ++ c)
join old a b c e = ap (λ l. l ++ c) e ∙ append_assoc old a c

pub adds : {A E : Type 0} (r : Result A E) (old a b c new x y z w : List ℕ) → a ≡ old ++ x → b ≡ a ++ y → c ≡ b ++ z → OnOk r (new ≡ c ++ w) → OnOk r ((back : List ℕ) × (new ≡ old ++ back))
adds (Err error) old a b c new x y z w one two three four = tt
adds (Ok done) old a b c new x y z w one two three four = (((x ++ y) ++ z) ++ w, four ∙ join old ((x ++ y) ++ z) c w (three ∙ join old (x ++ y) b z (two ∙ join old x a y one)))

pub four : (old a b c new x y z w : List ℕ) → a ≡ old ++ x → b ≡ a ++ y → c ≡ b ++ z → new ≡ c ++ w → new ≡ old ++ (x ++ (y ++ (z ++ w)))
four old a b c new x y z w one two three more =
    more ∙ join old ((x ++ y) ++ z) c w (three ∙ join old (x ++ y) b z (two ∙ join old x a y one)) ∙ ap (λ l. old ++ l) (append_assoc (x ++ y) z w ∙ append_assoc x y (z ++ w))

pub five : (old a b c d new x y z w v : List ℕ) → a ≡ old ++ x → b ≡ a ++ y → c ≡ b ++ z → d ≡ c ++ w → new ≡ d ++ v → new ≡ old ++ (x ++ (y ++ (z ++ (w ++ v))))
five old a b c d new x y z w v one two three more last =
    last ∙ join old (x ++ (y ++ (z ++ w))) d v (four old a b c d x y z w one two three more)
    ∙ ap (λ l. old ++ l) (append_assoc x (y ++ (z ++ w)) v ∙ ap (λ l. x ++ l) (append_assoc y (z ++ w) v ∙ ap (λ l. y ++ l) (append_assoc z w v)))

-- ---- the end of a journal
pub ended : (start walk : Walked) (old new : List ℕ) (at count : ℕ) → Comes start walk old new at → count ≡ length start.events → count ≤ at → place walk ≤ length walk.events → place walk ≡ length walk.events
ended start walk old new at count came is past most =
    let same : length walk.events ≡ length start.events = ap (λ es. length es) came.events in
    let was = came.passed in
    omega (arith, same, was, is, past, most)

pub tells-all : (start walk : Walked) (old new : List ℕ) (at : ℕ) → Comes start walk old new at → place walk ≡ length walk.events → (entries : List Entry) × TellsAll start entries × (new ≡ old ++ flat_map entry_text entries)
tells-all start walk old new at came all = (came.entries, record { to = walk; tells = came.tells; ends = all }, came.text)

pub tells-journal : {A E : Type 0} (r : Result A E) (devices : List Attached) (image : Contents) (journal header : List ℕ) (walk : Walked) (old new : List ℕ) → IsBegin devices image journal walk
    → OnOk r ((start : List ℕ) × (entries : List Entry) × TellsAll walk entries × (new ≡ old ++ run_text header start entries)) → OnOk r (AddsRun devices image journal old new)
tells-journal (Err error) devices image journal header walk old new begin told = tt
tells-journal (Ok done) devices image journal header walk old new begin told =
    (run_text header told.0 told.1, record { walk = walk; header = header; start = told.0; entries = told.1; begin = begin; all = told.2; text = refl }, told.3)
