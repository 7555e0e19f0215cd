use Rattle.std.proofs.Common.{refl}
use Rattle.hunt_search.proofs.Making.{over_forked, over_cant}
use Rattle.hunt_search.proofs.walking.go_on_once.Goals as goal

pub returns-then-is_ended-clause-forks : goal.returns-then-is_ended-clause-forks
returns-then-is_ended-clause-forks c none = over_forked c.args.trial.now.target.wanted.now.lines c.args.trial.now.switches c.args.queue.now.branches.items c.args.trial.now.branch.now c.args.steps c.args.machine.now (c.if-is_ended.ensures refl)

pub returns-then-is_ended-clause-steps : goal.returns-then-is_ended-clause-steps
returns-then-is_ended-clause-steps c = over_cant c.args.trial.now.target.wanted.now.lines c.args.trial.now.branch.now c.args.machine.now (c.if-is_ended.ensures refl)
