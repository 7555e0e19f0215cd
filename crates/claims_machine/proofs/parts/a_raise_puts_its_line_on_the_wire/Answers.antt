use Rattle.std.proofs.Common.{ap}
use Rattle.evm_model.specs.Pipes.{Pipe}
use Rattle.evm_model.specs.declared.event.Event.TheVariants.{Raise, Bell}
use Rattle.claims_machine.proofs.parts.a_raise_puts_its_line_on_the_wire.Goals as goal

pub returns-clause-raised : goal.returns-clause-raised
returns-clause-raised c old new answer p l e =
    let b = (c.events_change_only.ensures old new (Raise p l) answer e).board in (b.rest, b.pipes.here, b.pipes.others)

pub returns-clause-bell : goal.returns-clause-bell
returns-clause-bell c old new answer p l e =
    let b = (c.events_change_only.ensures old new (Bell p l) answer e).board in (b.rest, b.pipes.here, b.pipes.others)

pub returns-clause-wire : goal.returns-clause-wire
returns-clause-wire c l pipe = ap (λ (p : Pipe). p.wire) (c.raises_one_line.ensures l pipe).rest

pub returns-clause-stages : goal.returns-clause-stages
returns-clause-stages c l pipe =
    let rest = (c.raises_one_line.ensures l pipe).rest in (ap (λ (p : Pipe). p.oob) rest, ap (λ (p : Pipe). p.in_band) rest)

pub returns-clause-counts : goal.returns-clause-counts
returns-clause-counts c l pipe n there =
    let here = (c.raises_one_line.ensures l pipe).counts.here in rw there at here

pub returns-clause-others : goal.returns-clause-others
returns-clause-others c l m pipe other = (c.raises_one_line.ensures l pipe).counts.others m other
