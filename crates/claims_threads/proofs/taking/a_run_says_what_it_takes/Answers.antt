use Rattle.claims_threads.proofs.Made.{run_made}
use Rattle.claims_threads.proofs.Taken.{run_says, run_since}
use Rattle.claims_threads.proofs.taking.a_run_says_what_it_takes.Goals as goal

pub returns-clause-says : goal.returns-clause-says
returns-clause-says g c = run_says g.O.Origin.machine c.args.bells.now.cpus c.args.turns c.run.result c.args.workers.now c.run.new.workers c.run.ensures.count c.run.ensures.turns c.run.ensures.least

pub returns-clause-since : goal.returns-clause-since
returns-clause-since g c = run_since g.O.Origin.machine c.args.bells.now.cpus c.args.turns c.run.result c.args.workers.now c.run.new.workers c.run.ensures.count c.run.ensures.turns c.run.ensures.least

pub returns-clause-made : goal.returns-clause-made
returns-clause-made g c = run_made g.O.Origin.machine c.args.bells.now.cpus c.args.turns c.args.workers.now c.run.new.workers c.run.ensures.turns
