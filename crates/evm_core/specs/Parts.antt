-- The parts of which a machine is made.
use Rattle.std.specs.Prelude.{◌≤◌, ◌+◌, length}
use Rattle.evm_history.specs.History.{History}
use Rattle.evm_model.specs.Good.{GoodState}
use Rattle.evm_model.specs.State.{Board, State}
use Rattle.evm_model.specs.declared.boot.Boot.{Boot}
use Rattle.evm_core.specs.Journaled.{AreJournaled}

-- the state of a machine of these parts
abbrev pub state_of : Boot → History → Board → State
state_of boot journal board = record { boot = boot; journal = journal.events; board = board }

-- they make a machine: the journal has room for all that it may take, the rules hold that hold after every event, and each event of the
-- journal can be in it
abbrev pub AreParts : Boot → History → Board → Type 0
AreParts boot journal board = (boot.capacity ≤ length journal.events + journal.room) × GoodState (state_of boot journal board) × AreJournaled journal.events
