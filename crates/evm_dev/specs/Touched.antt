-- What an access to a register, and what a tick, make of a device's words.
use Rattle.std.specs.Prelude.{ℕ, zero, suc, Bool, false, List, [], ◌∷◌, Some, None}
use Rattle.evm_dev.specs.declared.touch.Touch.{Touch}

-- the words after a touch, and the answer
pub record Touched : Type 0 where
  pub words : List ℕ
  pub touch : Touch

-- the words after a tick, and whether the device raises its line
pub record Ticked : Type 0 where
  pub words : List ℕ
  pub raise : Bool

abbrev pub answer_alone : ℕ → Touch
answer_alone answer = record { answer = Some answer; raise = false }

abbrev pub no_answer : Touch
no_answer = record { answer = None; raise = false }

-- an answer, and no interrupt
abbrev pub answers : List ℕ → ℕ → Touched
answers words answer = record { words = words; touch = answer_alone answer }

-- an answer, and an interrupt if a test says so
abbrev pub raises_if : Bool → Touched → Touched
raises_if test touched = record touched { touch = record { answer = touched.touch.answer; raise = test } }

-- no answer, and nothing changes
abbrev pub untouched : List ℕ → Touched
untouched words = record { words = words; touch = no_answer }

-- the row of a register; past the last row there is no register
abbrev pub at_register : List Touched → ℕ → List ℕ → Touched
at_register [] register words = untouched words
at_register (row ∷ rows) zero words = row
at_register (row ∷ rows) (suc register) words = at_register rows register words

-- a tick that does nothing
abbrev pub unmoved : List ℕ → Ticked
unmoved words = record { words = words; raise = false }
