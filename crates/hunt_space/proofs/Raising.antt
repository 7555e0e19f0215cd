-- How many lines a journal raises, line by line.
use Rattle.std.proofs.Common.{◌≡◌, ℕ, ◌+◌, ◌<◌, ◌≤◌, zero, suc, List, [], ◌∷◌, Bool, true, false, Option, Some, None, length, refl, sym, ap, ◌∙◌, arith}
use Rattle.std.specs.Prelude.{◌==◌, if◌then◌else◌, slice_get}
use Rattle.evm_model.specs.Event.{Event}
use Rattle.evm_model.specs.declared.event.Event.TheVariants.{Step, Tick, Raise, Bell, Stop, Go, StepI, SetReg, SetPc, Poke, Break, Unbreak}
use Rattle.evm_core.specs.evm_history.EventLine.{EventLine}
use Rattle.evm_core.specs.evm_history.Runs.{line_of_event, merged_lines, runs}
use Rattle.evm_core.specs.evm_history.declared.event_line.EventLine.TheVariants.{Steps, One}
use Rattle.hunt_space.specs.Raises.{raise_count, raises_in, raises_of}

abbrev pub line_raises : EventLine → ℕ
line_raises line = raises_in (Some line)

abbrev pub lines_raise : List EventLine → ℕ
lines_raise [] = 0
lines_raise (line ∷ lines) = line_raises line + lines_raise lines

joined-raise : (same : Bool) (cpu count next more : ℕ) (lines : List EventLine) → lines_raise (if same then Steps cpu (count + more) ∷ lines else Steps cpu count ∷ Steps next more ∷ lines) ≡ lines_raise lines
joined-raise true cpu count next more lines = omega arith
joined-raise false cpu count next more lines = omega arith

merged-raise : (line : EventLine) (lines : List EventLine) → lines_raise (merged_lines line lines) ≡ line_raises line + lines_raise lines
merged-raise (One event) lines = refl
merged-raise (Steps cpu count) [] = refl
merged-raise (Steps cpu count) (One event ∷ lines) = refl
merged-raise (Steps cpu count) (Steps next more ∷ lines) = let h = joined-raise (cpu == next) cpu count next more lines in omega arith

event-raises : (event : Event) → line_raises (line_of_event event) ≡ raises_of event
event-raises (Step c) = refl
event-raises _ = refl

pub runs-raise : (events : List Event) → lines_raise (runs events) ≡ raise_count events
unfolding runs
runs-raise [] = refl
runs-raise (event ∷ events) = merged-raise (line_of_event event) (runs events) ∙ (let e = event-raises event in let h = runs-raise events in omega arith)

-- those of the first lines
abbrev pub first_raise : List EventLine → ℕ → ℕ
first_raise lines zero = 0
first_raise [] (suc i) = 0
first_raise (line ∷ lines) (suc i) = line_raises line + first_raise lines i

pub first-more : (lines : List EventLine) (i : ℕ) → first_raise lines (suc i) ≡ first_raise lines i + raises_in (slice_get lines i)
first-more [] zero = omega arith
first-more [] (suc i) = omega arith
first-more (line ∷ lines) zero = omega arith
first-more (line ∷ lines) (suc i) = let h = first-more lines i in omega arith

pub first-all : (lines : List EventLine) (i : ℕ) → length lines ≤ i → first_raise lines i ≡ lines_raise lines
first-all [] zero h = refl
first-all [] (suc i) h = refl
first-all (line ∷ lines) zero h = absurd (omega arith)
first-all (line ∷ lines) (suc i) h = let g = first-all lines i (omega arith) in omega arith
