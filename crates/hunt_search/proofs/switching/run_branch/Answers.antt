use Rattle.std.proofs.Common.{sym}
use Rattle.hunt_search.proofs.Branching.{searches}
use Rattle.hunt_search.proofs.switching.run_branch.Goals as goal

pub returns-in-Ok-clause-searches : goal.returns-in-Ok-clause-searches
returns-in-Ok-clause-searches c alive none first begins =
    searches c.args.trial.now.target.image.now c.args.trial.now.target.boot.now c.args.trial.now.target.wanted.now c.args.trial.now.switches c.go_on.new.queue.branches.items c.args.trial.now.walked.now c.args.trial.now.branch.now c.as_slice-turns.result.now c.in-Ok.walk.steps
    c.args.machine.now c.begin_with.new.machine first (sym c.as_slice-turns.ensures.value) c.requires.begins c.in-None.ensures.passes begins (c.in-Ok.ensures.walks alive none first begins)
