use Rattle.evm_model.specs.declared.event.Event.TheVariants.{Tick}
use Rattle.claims_machine.proofs.parts.a_tick_moves_the_clock.Goals as goal

pub returns-clause-rest : goal.returns-clause-rest
returns-clause-rest c old new answer e = (c.events_change_only.ensures old new Tick answer e).board.rest

pub returns-clause-pipes : goal.returns-clause-pipes
returns-clause-pipes c old new answer e p other = (c.events_change_only.ensures old new Tick answer e).board.others p other

pub returns-clause-first : goal.returns-clause-first
returns-clause-first c old new answer e = (c.events_change_only.ensures old new Tick answer e).board.first
