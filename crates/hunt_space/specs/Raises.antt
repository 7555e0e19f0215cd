-- How many raises there were.
use Rattle.std.specs.Prelude.{ℕ, ◌+◌, List, [], ◌∷◌, Option, Some, None}
use Rattle.evm_core.specs.evm_history.EventLine.{EventLine}
use Rattle.evm_core.specs.evm_history.declared.event_line.EventLine.TheVariants.{Steps, One}
use Rattle.evm_model.specs.Event.{Event}
use Rattle.evm_model.specs.declared.event.Event.TheVariants.{Raise}

abbrev pub raises_of : Event → ℕ
raises_of (Raise c line) = 1
raises_of _ = 0

abbrev pub raise_count : List Event → ℕ
raise_count [] = 0
raise_count (event ∷ events) = raises_of event + raise_count events

-- .. of a line of a journal
abbrev pub raises_in : Option EventLine → ℕ
raises_in None = 0
raises_in (Some (Steps cpu count)) = 0
raises_in (Some (One event)) = raises_of event
