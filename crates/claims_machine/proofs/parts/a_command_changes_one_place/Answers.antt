use Rattle.evm_model.specs.declared.event.Event.TheVariants.{Stop, Go, SetReg, SetPc, Poke, Break, Unbreak}
use Rattle.claims_machine.proofs.parts.a_command_changes_one_place.Goals as goal

pub returns-clause-stops : goal.returns-clause-stops
returns-clause-stops c old new answer p e =
    let b = (c.events_change_only.ensures old new (Stop p) answer e).board in (b.rest, b.processors.here, b.processors.others)

pub returns-clause-goes : goal.returns-clause-goes
returns-clause-goes c old new answer p e =
    let b = (c.events_change_only.ensures old new (Go p) answer e).board in (b.rest, b.processors.here, b.processors.others)

pub returns-clause-sets_a_register : goal.returns-clause-sets_a_register
returns-clause-sets_a_register c old new answer p r value e =
    let b = (c.events_change_only.ensures old new (SetReg p r value) answer e).board in (b.rest, (b.task, (b.runs, b.harts.here, b.harts.others)))

pub returns-clause-sets_a_pc : goal.returns-clause-sets_a_pc
returns-clause-sets_a_pc c old new answer p pc e =
    let b = (c.events_change_only.ensures old new (SetPc p pc) answer e).board in (b.rest, (b.task, (b.runs, b.harts.here, b.harts.others)))

pub returns-clause-pokes : goal.returns-clause-pokes
returns-clause-pokes c old new answer address bytes e =
    let b = (c.events_change_only.ensures old new (Poke address bytes) answer e).board in (b.rest, b.ram)

pub returns-clause-sets_a_breakpoint : goal.returns-clause-sets_a_breakpoint
returns-clause-sets_a_breakpoint c old new answer address e =
    let b = (c.events_change_only.ensures old new (Break address) answer e).board in (b.rest, b.here, b.others, b.already)

pub returns-clause-takes_a_breakpoint : goal.returns-clause-takes_a_breakpoint
returns-clause-takes_a_breakpoint c old new answer address e =
    let b = (c.events_change_only.ensures old new (Unbreak address) answer e).board in (b.rest, b.here, b.others)
