-- What a line of a script is read from.
use Rattle.std.proofs.Common.{◌≡◌, ◌↔◌, ℕ, Bool, true, false, cond, eqb, List, [], ◌∷◌, ◌++◌, length, Option, Some, None, Result, Ok, Err, refl, sym, ap, subst, ◌∙◌, ◌⊎◌, inl, inr, codes, arith}
use Rattle.std.specs.Prelude.{option_map}
use Rattle.std.specs.Result.{result_ok}
use Rattle.std.proofs.lemmas.Option.{same_Some}
use Rattle.std.proofs.lemmas.Bool.{cases_Bool, eqb-true}
use Rattle.evm_journal.specs.evm_text.Fields.{then_blank, then_end}
use Rattle.evm_journal.specs.evm_text.Reading.{◌>>=◌, after_word, decimal_at}
use Rattle.evm_journal.specs.evm_text.Rows.{Decimal, LineRow, row_text, row_says, Fit, values_at, made_with, keyword, said_at, differ, IsRowOf, rows_at, rows_as}
use Rattle.evm_journal.proofs.evm_text.Rows.{reads_table, keyword_some, Each, row_is, row_of_either, row_of_first, row_of_second, row_as_takes, row_as_again, row_begins_so}
use Rattle.evm_journal.proofs.evm_text.Options.{bind_some, guard_some}
use Rattle.evm_model.specs.declared.boot.Boot.{Boot as Numbers}
use Rattle.evm_journal.specs.evm_history.EventLine.{EventLine}
use Rattle.evm_journal.specs.evm_history.declared.event_line.EventLine.TheVariants as events
use Rattle.evm_journal.specs.EventLine.{event_rows, poke_row, short_rows}
use Rattle.evm_journal.specs.Journal.{HasVersion, unwatched_numbers, watched_numbers, is_unwatched, HasBootLine}
use Rattle.evm_model.specs.declared.limits.TheConstants.{PROFILE_LIMIT}
use Rattle.evm_journal.proofs.Tables.{row_named, named_row}
use Rattle.evm_journal.proofs.Lines.{IsLine, row_is_line, line_is_row}
use Rattle.evm_debug.specs.declared.line.View.{View}
use Rattle.evm_debug.specs.declared.line.View.TheVariants.{Regs}
use Rattle.evm_debug.specs.declared.line.Line.{Line}
use Rattle.evm_debug.specs.declared.line.Line.TheVariants.{Blank, Boot, Steps, One, Show}
use Rattle.evm_debug.specs.Line.{bare_rows, view_rows, view_row, view_text, HasViewLine, script_line, script_rows, script_unwatched, script_watched, is_blank_line, IsBootLine, IsSpelled}
use Rattle.evm_debug.specs.LineReading.{either_form, script_boot_at, line_at, ReadsLines}

-- ---- a view

-- the bytes are the spelling of a view
abbrev IsView : View → List ℕ → Type 0
IsView view bytes = (bytes ≡ view_text view) × HasViewLine view

each_bare : Each IsView bare_rows
each_bare = (λ values fit. (refl, fit), (λ values fit. (refl, fit), (λ values fit. (refl, fit), (λ values fit. (refl, fit), (λ values fit. (refl, fit), tt)))))

each_view : Each IsView view_rows
each_view = (λ values fit. (refl, fit), (λ values fit. (refl, fit), (λ values fit. (refl, fit), (λ values fit. (refl, fit), (λ values fit. (refl, fit), (λ values fit. (refl, fit), each_bare))))))

-- the keyword of a view finds its row, which says the view
named : (view : View) → row_named (view_row view).row.keyword view_rows ≡ Some (view_row view).row
named (Regs cpu) = refl
named _ = refl

says : (view : View) → row_says (view_row view) ≡ view
says (Regs cpu) = refl
says _ = refl

view_is_row : (view : View) (bytes : List ℕ) → IsView view bytes → IsRowOf view_rows view bytes
view_is_row view bytes is = named_row view_rows (view_row view) view bytes (named view) is.0 is.1 (says view)

-- ---- a row of a script

-- a line of events that the bytes spell is that line of the script
events_spelled : (line : EventLine) (bytes : List ℕ) → IsLine line bytes → IsSpelled (script_line line) bytes
events_spelled (events.Steps cpu count) bytes is = is
events_spelled (events.One event) bytes is = is

row_is_spelled : (line : Line) (bytes : List ℕ) → IsRowOf script_rows line bytes → IsSpelled line bytes
row_is_spelled line bytes is =
    elim (row_of_either (rows_as Show view_rows) (rows_as script_line event_rows) line bytes is) [
      | inl view ↦
          let a = row_as_takes Show view_rows line bytes view in
          subst (λ (x : Line). IsSpelled x bytes) a.2 (row_is IsView view_rows a.0 bytes each_view a.1)
      | inr event ↦
          let a = row_as_takes script_line event_rows line bytes event in
          subst (λ (x : Line). IsSpelled x bytes) a.2 (events_spelled a.0 bytes (row_is_line a.0 bytes a.1))
    ]

view_is_spelled : (view : View) (bytes : List ℕ) → IsView view bytes → IsRowOf script_rows (Show view) bytes
view_is_spelled view bytes is =
    row_of_first (rows_as Show view_rows) (rows_as script_line event_rows) (Show view) bytes (row_as_again Show view_rows view bytes (view_is_row view bytes is))

event_is_spelled : (line : EventLine) (bytes : List ℕ) → IsRowOf event_rows line bytes → IsRowOf script_rows (script_line line) bytes
event_is_spelled line bytes is =
    row_of_second (rows_as Show view_rows) (rows_as script_line event_rows) (script_line line) bytes (row_as_again script_line event_rows line bytes is)

-- ---- a boot line

row_is_unwatched : (boot : Numbers) (bytes : List ℕ) → IsRowOf (script_unwatched ∷ []) boot bytes → IsBootLine boot bytes
row_is_unwatched boot bytes =
    row_is IsBootLine (script_unwatched ∷ []) boot bytes (λ values fit. record { newest = refl; text = inr (refl, refl); fit = (fit.0, (fit.1.0, (fit.1.1, omega arith))) }, tt)

row_is_watched : (boot : Numbers) (bytes : List ℕ) → IsRowOf (script_watched ∷ []) boot bytes → IsBootLine boot bytes
row_is_watched boot bytes = row_is IsBootLine (script_watched ∷ []) boot bytes (λ values fit. record { newest = refl; text = inl refl; fit = fit }, tt)

-- the numbers of a boot, with a profile and a watchdog
abbrev with_both : Numbers → ℕ → ℕ → Numbers
with_both boot profile watchdog = record boot { profile = profile; watchdog = watchdog }

same_boot : (boot : Numbers) (profile watchdog : ℕ) → boot.profile ≡ profile → boot.watchdog ≡ watchdog → with_both boot profile watchdog ≡ boot
same_boot boot profile watchdog same none = ap (λ (x : ℕ). with_both boot x watchdog) (sym same) ∙ ap (λ (x : ℕ). with_both boot boot.profile x) (sym none)

unwatched_is_row : (boot : Numbers) (bytes : List ℕ) → boot.profile ≡ PROFILE_LIMIT → boot.watchdog ≡ 0 → bytes ≡ row_text (unwatched_numbers boot) → Fit (watched_numbers boot)
    → IsRowOf (script_unwatched ∷ []) boot bytes
unwatched_is_row boot bytes newest none text fit = inl ((boot.cpus, (boot.ram, boot.capacity)), text, (fit.0, (fit.1.0, fit.1.1.0)), same_boot boot PROFILE_LIMIT 0 newest none)

watched_is_row : (boot : Numbers) (bytes : List ℕ) → boot.profile ≡ PROFILE_LIMIT → bytes ≡ row_text (watched_numbers boot) → Fit (watched_numbers boot) → IsRowOf (script_watched ∷ []) boot bytes
watched_is_row boot bytes newest text fit =
    inl ((boot.cpus, (boot.ram, (boot.capacity, boot.watchdog))), text, fit, same_boot boot PROFILE_LIMIT boot.watchdog newest refl)

-- what a journal with these numbers has
pub has_boot_line : (boot : Numbers) (bytes : List ℕ) → IsBootLine boot bytes → HasBootLine boot
has_boot_line boot bytes is =
    let watched : is_unwatched boot.profile ≡ false = ap is_unwatched is.newest in
    record {
      version = subst HasVersion (sym is.newest) (omega arith, omega arith, omega arith);
      watchdog = λ off. let e : false ≡ true = sym watched ∙ off in absurd cc;
      numbers = is.fit;
    }

-- what a row of boot lines says stands behind its keyword
abbrev boot_word : List ℕ
boot_word = codes "boot "

abbrev SaysBehind : LineRow Numbers → Numbers → List ℕ → Type 0
SaysBehind row boot bytes = (rest : List ℕ) × (after_word boot_word bytes ≡ Some rest) × (said_at row rest ≡ Some boot)

unwatched_said : (boot : Numbers) (bytes : List ℕ) → IsRowOf (script_unwatched ∷ []) boot bytes → SaysBehind script_unwatched boot bytes
unwatched_said boot bytes is =
    elim (keyword_some (after_word boot_word bytes) (said_at script_unwatched) None boot ((reads_table (script_unwatched ∷ []) boot bytes refl).1 is)) [ inl r ↦ r | inr e ↦ absurd cc ]

watched_said : (boot : Numbers) (bytes : List ℕ) → IsRowOf (script_watched ∷ []) boot bytes → SaysBehind script_watched boot bytes
watched_said boot bytes is =
    elim (keyword_some (after_word boot_word bytes) (said_at script_watched) None boot ((reads_table (script_watched ∷ []) boot bytes refl).1 is)) [ inl r ↦ r | inr e ↦ absurd cc ]

-- ---- four numbers are not three

-- the same step of reading goes on in two ways
two_ways : {A B C : Type 0} (r : Option A) (f : A → Option B) (g : A → Option C) (y : B) (z : C) → (r >>= f) ≡ Some y → (r >>= g) ≡ Some z → (x : A) × (f x ≡ Some y) × (g x ≡ Some z)
two_ways (Some x) f g y z e o = (x, e, o)
two_ways None f g y z e o = absurd cc

ends_or_goes_on : (read : Option (ℕ × List ℕ)) (n : ℕ) (part : ℕ × List ℕ) → then_end read ≡ Some n → then_blank read ≡ Some part → ⊥
unfolding then_end then_blank after_word
ends_or_goes_on None n part ends on = absurd cc
ends_or_goes_on (Some (m, [])) n part ends on = absurd cc
ends_or_goes_on (Some (m, b ∷ rest)) n part ends on = let none = eqb-true (length (b ∷ rest)) 0 (guard_some (eqb (length (b ∷ rest)) 0) (Some m) n ends).0 in omega (arith, none)

one_or_two : (bytes : List ℕ) (one : ℕ) (two : ℕ × ℕ) → values_at (Decimal ∷ []) bytes ≡ Some one → values_at (Decimal ∷ Decimal ∷ []) bytes ≡ Some two → ⊥
one_or_two bytes one two e o =
    let first = bind_some (then_blank (decimal_at bytes)) (λ value. values_at (Decimal ∷ []) value.1 >>= λ others. Some (value.0, others)) two o in
    ends_or_goes_on (decimal_at bytes) one first.0 e first.1

two_or_three : (bytes : List ℕ) (two : ℕ × ℕ) (three : ℕ × (ℕ × ℕ)) → values_at (Decimal ∷ Decimal ∷ []) bytes ≡ Some two → values_at (Decimal ∷ Decimal ∷ Decimal ∷ []) bytes ≡ Some three → ⊥
two_or_three bytes two three e o =
    let both = two_ways (then_blank (decimal_at bytes)) (λ value. values_at (Decimal ∷ []) value.1 >>= λ others. Some (value.0, others)) (λ value. values_at (Decimal ∷ Decimal ∷ []) value.1 >>= λ others. Some (value.0, others)) two three e o in
    let short = bind_some (values_at (Decimal ∷ []) both.0.1) (λ others. Some (both.0.0, others)) two both.1 in
    let long = bind_some (values_at (Decimal ∷ Decimal ∷ []) both.0.1) (λ others. Some (both.0.0, others)) three both.2 in
    one_or_two both.0.1 short.0 long.0 short.1 long.1

three_or_four : (bytes : List ℕ) (three : ℕ × (ℕ × ℕ)) (four : ℕ × (ℕ × (ℕ × ℕ))) → values_at (Decimal ∷ Decimal ∷ Decimal ∷ []) bytes ≡ Some three
    → values_at (Decimal ∷ Decimal ∷ Decimal ∷ Decimal ∷ []) bytes ≡ Some four → ⊥
three_or_four bytes three four e o =
    let both = two_ways (then_blank (decimal_at bytes)) (λ value. values_at (Decimal ∷ Decimal ∷ []) value.1 >>= λ others. Some (value.0, others)) (λ value. values_at (Decimal ∷ Decimal ∷ Decimal ∷ []) value.1 >>= λ others. Some (value.0, others)) three four e o in
    let short = bind_some (values_at (Decimal ∷ Decimal ∷ []) both.0.1) (λ others. Some (both.0.0, others)) three both.1 in
    let long = bind_some (values_at (Decimal ∷ Decimal ∷ Decimal ∷ []) both.0.1) (λ others. Some (both.0.0, others)) four both.2 in
    two_or_three both.0.1 short.0 long.0 short.1 long.1

none_from : {A : Type 0} (o : Option A) → ((x : A) → o ≡ Some x → ⊥) → o ≡ None
none_from (Some x) never = absurd (never x refl)
none_from None never = refl

no_three : (boot : Numbers) (rest : List ℕ) → said_at script_watched rest ≡ Some boot → said_at script_unwatched rest ≡ None
no_three boot rest said =
    let four = bind_some (values_at script_watched.fields rest) (λ values. Some (made_with script_watched.fields script_watched.says values)) boot said in
    none_from (said_at script_unwatched rest) (λ other read.
    let three = bind_some (values_at script_unwatched.fields rest) (λ values. Some (made_with script_unwatched.fields script_unwatched.says values)) other read in
    three_or_four rest three.0 four.0 three.1 four.1)

-- ---- a line

-- a text with a first character that begins no comment
abbrev is_said : List ℕ → Bool
is_said [] = false
is_said (b ∷ bytes) = cond (eqb b 35) false true

said_grows : (text rest : List ℕ) → is_said text ≡ true → is_said (text ++ rest) ≡ true
said_grows [] rest e = absurd cc
said_grows (b ∷ text) rest e = e

said_blank : (bytes : List ℕ) → is_said bytes ≡ true → is_blank_line bytes ≡ false
said_blank [] e = absurd cc
said_blank (b ∷ bytes) e =
    elim (cases_Bool (eqb b 35)) [
      | inl is ↦ let no : false ≡ true = rw is at e in absurd cc
      | inr isnt ↦ isnt
    ]

differ_grows : (word text rest : List ℕ) → differ word text ≡ true → differ word (text ++ rest) ≡ true
differ_grows [] text rest e = absurd cc
differ_grows (b ∷ word) [] rest e = absurd cc
differ_grows (b ∷ word) (c ∷ text) rest e =
    elim (cases_Bool (eqb c b)) [
      | inl same ↦ let more : differ word text ≡ true = rw same at e in rw same (differ_grows word text rest more)
      | inr isnt ↦ rw isnt refl
    ]

differ_none : (word bytes : List ℕ) → differ word bytes ≡ true → after_word word bytes ≡ None
unfolding after_word
differ_none [] bytes e = absurd cc
differ_none (b ∷ word) [] e = absurd cc
differ_none (b ∷ word) (c ∷ bytes) e =
    elim (cases_Bool (eqb c b)) [
      | inl same ↦ let more : differ word bytes ≡ true = rw same at e in rw same (differ_none word bytes more)
      | inr isnt ↦ rw isnt refl
    ]

row_read : (line : Line) (bytes : List ℕ) → IsRowOf script_rows line bytes → line_at bytes ≡ Some line
unfolding line_at
row_read line bytes is =
    let text = said_blank bytes (row_begins_so is_said script_rows line bytes said_grows refl is) in
    let none = differ_none boot_word bytes (row_begins_so (differ boot_word) script_rows line bytes (differ_grows boot_word) refl is) in
    rw (text, none) ((reads_table script_rows line bytes refl).1 is)

mapped : {A B : Type 0} (f : A → B) (o : Option A) (y : B) → option_map f o ≡ Some y → (x : A) × (o ≡ Some x) × (f x ≡ y)
mapped f (Some x) y e = (x, refl, same_Some (f x) y e)
mapped f None y e = absurd cc

either_cases : (one other : Option Numbers) (boot : Numbers) → either_form one other ≡ Some boot → (one ≡ Some boot) ⊎ (other ≡ Some boot)
either_cases (Some x) other boot e = inl e
either_cases None other boot e = inr e

boot_takes : (boot : Numbers) (bytes rest : List ℕ) → after_word boot_word bytes ≡ Some rest → script_boot_at rest ≡ Some boot → IsBootLine boot bytes
boot_takes boot bytes rest word read =
    elim (either_cases (said_at script_unwatched rest) (said_at script_watched rest) boot read) [
      | inl said ↦ row_is_unwatched boot bytes ((reads_table (script_unwatched ∷ []) boot bytes refl).0 (rw (word, said) refl))
      | inr said ↦ row_is_watched boot bytes ((reads_table (script_watched ∷ []) boot bytes refl).0 (rw (word, said) refl))
    ]

line_takes : (bytes : List ℕ) (line : Line) → line_at bytes ≡ Some line → IsSpelled line bytes
unfolding line_at
line_takes bytes line read =
    elim (cases_Bool (is_blank_line bytes)) [
      | inl blank ↦ subst (λ (x : Line). IsSpelled x bytes) (same_Some Blank line (rw blank at read)) blank
      | inr text ↦
          let said : keyword (after_word boot_word bytes) (λ rest. option_map Boot (script_boot_at rest)) (rows_at script_rows bytes) ≡ Some line = rw text at read in
          elim (keyword_some (after_word boot_word bytes) (λ rest. option_map Boot (script_boot_at rest)) (rows_at script_rows bytes) line said) [
            | inl boot ↦
                let a = mapped Boot (script_boot_at boot.0) line boot.2 in
                subst (λ (x : Line). IsSpelled x bytes) a.2 (boot_takes a.0 bytes boot.0 boot.1 a.1)
            | inr other ↦ row_is_spelled line bytes ((reads_table script_rows line bytes refl).0 other)
          ]
    ]

event_read : (line : EventLine) (bytes : List ℕ) → IsRowOf event_rows line bytes → line_at bytes ≡ Some (script_line line)
event_read line bytes event = row_read (script_line line) bytes (event_is_spelled line bytes event)

-- what the rows of the events that hold no bytes read is what the whole table reads
pub short_read : (line : EventLine) (bytes : List ℕ) → rows_at short_rows bytes ≡ Some line → line_at bytes ≡ Some (script_line line)
short_read line bytes read = event_read line bytes (inr ((reads_table short_rows line bytes refl).0 read))

-- .. and so is what the row of Pokes reads
pub poke_read : (line : EventLine) (bytes : List ℕ) → rows_at (poke_row ∷ []) bytes ≡ Some line → line_at bytes ≡ Some (script_line line)
poke_read line bytes read =
    event_read line bytes (elim ((reads_table (poke_row ∷ []) line bytes refl).0 read) [ inl poke ↦ inl poke | inr none ↦ absurd none ])

blank_read : (bytes : List ℕ) → is_blank_line bytes ≡ true → line_at bytes ≡ Some Blank
unfolding line_at
blank_read bytes blank = rw blank refl

boot_read : (boot : Numbers) (bytes rest : List ℕ) → is_said bytes ≡ true → after_word boot_word bytes ≡ Some rest → script_boot_at rest ≡ Some boot → line_at bytes ≡ Some (Boot boot)
unfolding line_at
boot_read boot bytes rest begins word read = let text = said_blank bytes begins in rw (text, word, read) refl

boot_again : (boot : Numbers) (bytes : List ℕ) → IsBootLine boot bytes → line_at bytes ≡ Some (Boot boot)
boot_again boot bytes is =
    elim is.text [
      | inl four ↦
          let row = watched_is_row boot bytes is.newest four is.fit in
          let r = watched_said boot bytes row in
          let apart = no_three boot r.0 r.2 in
          boot_read boot bytes r.0 (row_begins_so is_said (script_watched ∷ []) boot bytes said_grows refl row) r.1 (rw apart r.2)
      | inr three ↦
          let row = unwatched_is_row boot bytes is.newest three.0 three.1 is.fit in
          let r = unwatched_said boot bytes row in
          let said = r.2 in
          boot_read boot bytes r.0 (row_begins_so is_said (script_unwatched ∷ []) boot bytes said_grows refl row) r.1 (rw said refl)
    ]

line_again : (line : Line) (bytes : List ℕ) → IsSpelled line bytes → line_at bytes ≡ Some line
line_again Blank bytes is = blank_read bytes is
line_again (Boot boot) bytes is = boot_again boot bytes is
line_again (Steps cpu count) bytes is = event_read (events.Steps cpu count) bytes (line_is_row (events.Steps cpu count) bytes is)
line_again (One event) bytes is = event_read (events.One event) bytes (line_is_row (events.One event) bytes is)
line_again (Show view) bytes is = row_read (Show view) bytes (view_is_spelled view bytes is)

pub reads_lines : ReadsLines
reads_lines line bytes = (line_takes bytes line, line_again line bytes)

-- an answer is there if and only if there is no error
ok_some : {A E : Type 0} (r : Result A E) (x : A) → (r ≡ Ok x) ↔ (result_ok r ≡ Some x)
ok_some (Ok y) x = (λ e. cc, λ e. cc)
ok_some (Err d) x = (λ e. absurd cc, λ e. absurd cc)

pub reads_results : {E : Type 0} (r : Result Line E) (line : Line) (bytes : List ℕ) → result_ok r ≡ line_at bytes → (r ≡ Ok line) ↔ IsSpelled line bytes
reads_results r line bytes e = (
  λ is. (reads_lines line bytes).0 (sym e ∙ (ok_some r line).0 is),
  λ spelled. (ok_some r line).1 (e ∙ (reads_lines line bytes).1 spelled),
)
