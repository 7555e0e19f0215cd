use Rattle.std.proofs.Common.{◌∙◌, sym}
use Rattle.run_walk.proofs.Quietly.{quiet_steps-run}
use Rattle.run_walk.proofs.quiet.is_quiet.Goals as goal

pub returns-clause-runs : goal.returns-clause-runs
returns-clause-runs g c = λ quiet. quiet_steps-run c.args.c c.args.machine.now c.rules.ensures.good (sym c.is_quiet_cpu.ensures ∙ quiet)
