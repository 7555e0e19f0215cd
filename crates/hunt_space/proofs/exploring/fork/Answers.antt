use Rattle.hunt_space.proofs.Choosing.{all-paths}
use Rattle.hunt_space.proofs.exploring.fork.Goals as goal

pub returns-in-Ok-clause-forks : goal.returns-in-Ok-clause-forks
returns-in-Ok-clause-forks c none =
    all-paths c.args.going.now.target.wanted.now.lines c.lines.result c.args.awake.now c.cpu_count.result c.may_tick.result c.args.going.now.bounds c.fork_all.new.self.paths.items c.args.going.now.path.now c.args.steps c.args.machine.now
    c.requires c.cpu_count.ensures.count c.may_tick.ensures c.lines.ensures (c.in-Ok.ensures.has none)
