use Rattle.evm_model.specs.declared.event.Event.TheVariants.{Tick}
use Rattle.claims_machine.proofs.Others.{devices_stand}
use Rattle.claims_machine.proofs.devices.a_tick_changes_devices_by_their_kinds.Goals as goal

pub returns-clause-ticks : goal.returns-clause-ticks
returns-clause-ticks c old new answer e = (c.events_change_only.ensures old new Tick answer e).board.devices

pub returns-clause-others : goal.returns-clause-others
returns-clause-others c old new event answer e tick step = devices_stand event old.board new.board tick step (c.events_change_only.ensures old new event answer e).board
