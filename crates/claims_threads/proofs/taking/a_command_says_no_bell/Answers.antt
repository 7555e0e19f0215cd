use Rattle.claims_threads.proofs.Taken.{commanded}
use Rattle.claims_threads.proofs.taking.a_command_says_no_bell.Goals as goal

pub returns-clause-lines : goal.returns-clause-lines
returns-clause-lines g c = (commanded g.O.Origin.machine c.args.event.now c.command.result c.args.port.now c.command.new.port c.requires c.command.ensures).0

pub returns-clause-bells : goal.returns-clause-bells
returns-clause-bells g c =
    let quiet = commanded g.O.Origin.machine c.args.event.now c.command.result c.args.port.now c.command.new.port c.requires c.command.ensures in
    (quiet.1, quiet.2)
