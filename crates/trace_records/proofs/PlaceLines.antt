-- The pieces of a place, and of a label, are its text.
use Rattle.std.proofs.Common.{◌≡◌, ℕ, ◌+◌, List, [], ◌∷◌, ◌++◌, refl, ap, ◌∙◌, append_assoc}
use Rattle.std.specs.Prelude.{codes, Some, Result, Ok, Err, OnOk}
use Rattle.json.specs.Json.{no_members}
use Rattle.json.specs.Print.{quoted, escape_byte}
use Rattle.text_markup.specs.Text.{text, shown_bytes}
use Rattle.evm_text.specs.Written.{decimal, numeral}
use Rattle.trace_records.specs.Entries.{arguments, trace_event, string_member}
use Rattle.trace_records.specs.declared.track.Track.TheVariants.{Task}
use Rattle.trace_records.specs.declared.place.CodePlace.{CodePlace}
use Rattle.trace_records.specs.declared.bearer.Bearer.TheVariants.{Itself, Awaited, Locked}
use Rattle.trace_records.specs.Labels.{label_text, lock_words, task_words, wait_words}
use Rattle.trace_records.specs.Places.{place_words, line_by}
use Rattle.trace_records.specs.Pieces.{name_pieces, place_pieces}

seven : (a b c d e f g : List ℕ) → (((((a ++ b) ++ c) ++ d) ++ e) ++ f) ++ g ≡ a ++ (b ++ (c ++ (d ++ (e ++ (f ++ g)))))
seven a b c d e f g = simp append_assoc

name_end : (s : List ℕ) → quoted s ++ codes ",\"s\":\"t\"}" ≡ 34 ∷ ((Rattle.json.specs.Print.escape s ++ 34 ∷ []) ++ codes ",\"s\":\"t\"}")
name_end s = refl

named_line : (task at : ℕ) (name : List ℕ) → place_pieces (task + 1) at name ≡ 44 ∷ 10 ∷ text (trace_event (codes "i") (Task task) at (string_member (codes "name") (shown_bytes name) (string_member (codes "s") (codes "t") no_members)))
unfolding place_pieces escape_byte numeral
named_line task at name =
    seven (codes ",\n{\"ph\":\"i\",\"pid\":2,\"tid\":") (decimal (task + 1)) (codes ",\"ts\":") (decimal at) (codes ",\"name\":") (quoted (shown_bytes name)) (codes ",\"s\":\"t\"}")

pub place_is_line : (p : CodePlace) (name : List ℕ) (offset : ℕ) → place_pieces (p.task + 1) p.at (place_words p.doing (name, offset)) ≡ line_by p (Some (name, offset))
place_is_line p name offset = named_line p.task p.at (place_words p.doing (name, offset))

-- ---- the name of a task
named_five : (a b c d : List ℕ) → (((a ++ b) ++ c) ++ d) ++ codes "}}" ≡ a ++ (b ++ (c ++ ((d ++ 125 ∷ []) ++ 125 ∷ [])))
named_five a b c d = simp append_assoc

task_line : (task : ℕ) (name : List ℕ) → name_pieces (task + 1) name ≡ 44 ∷ 10 ∷ text (trace_event (codes "M") (Task task) 0 (string_member (codes "name") (codes "thread_name") (arguments (string_member (codes "name") (shown_bytes name) no_members))))
unfolding name_pieces escape_byte numeral
task_line task name =
    named_five (codes ",\n{\"ph\":\"M\",\"pid\":2,\"tid\":") (decimal (task + 1)) (codes ",\"ts\":0,\"name\":\"thread_name\",\"args\":{\"name\":") (quoted (shown_bytes name))

pub name_is_line : (task : ℕ) (name : List ℕ) → name_pieces (task + 1) (task_words task name) ≡ label_text task name Itself
unfolding label_text
name_is_line task name = task_line task (task_words task name)

-- ---- the instant of a wait, and of a lock
pub wait_is_line : (task from : ℕ) (name : List ℕ) → place_pieces (task + 1) from (wait_words name) ≡ label_text task name (Awaited from)
unfolding label_text
wait_is_line task from name = named_line task from (wait_words name)

pub lock_is_line : (task at : ℕ) (name : List ℕ) → place_pieces (task + 1) at (lock_words name) ≡ label_text task name (Locked at)
unfolding label_text
lock_is_line task at name = named_line task at (lock_words name)

pub ruleset line = (place_is_line, name_is_line, wait_is_line, lock_is_line)

-- ---- one text behind another

pub more : (old mid new a b : List ℕ) → mid ≡ old ++ a → new ≡ mid ++ b → new ≡ old ++ (a ++ b)
more old mid new a b one two = two ∙ ap (λ (x : List ℕ). x ++ b) one ∙ append_assoc old a b

pub last : {E : Type 0} (result : Result (Unit {0}) E) (old mid new a b : List ℕ) → mid ≡ old ++ a → OnOk result (new ≡ mid ++ b) → OnOk result (new ≡ old ++ (a ++ b))
last (Ok done) old mid new a b one two = more old mid new a b one two
last (Err refused) old mid new a b one two = tt
