use Rattle.claims_threads.proofs.Made.{deliver_made}
use Rattle.claims_threads.proofs.Taken.{says_made, says_taken}
use Rattle.claims_threads.proofs.taking.a_deliver_says_what_it_takes.Goals as goal

pub returns-clause-lines : goal.returns-clause-lines
returns-clause-lines g c some p l low =
    says_taken g.O.Origin.machine c.args.bells.now.cpus c.args.cpu c.deliver.result c.args.port.now c.deliver.new.port c.args.taker.now c.deliver.new.taker c.deliver.ensures.call c.deliver.ensures.taken some p l low

pub returns-clause-bells : goal.returns-clause-bells
returns-clause-bells g c some =
    says_made g.O.Origin.machine c.args.bells.now.cpus c.args.cpu c.deliver.result c.args.port.now c.deliver.new.port c.deliver.ensures.call some

pub returns-clause-made : goal.returns-clause-made
returns-clause-made g c =
    deliver_made g.O.Origin.machine c.args.bells.now.cpus c.args.cpu c.deliver.result c.args.port.now c.deliver.new.port c.args.taker.now c.deliver.new.taker c.deliver.ensures.call c.deliver.ensures.taken
