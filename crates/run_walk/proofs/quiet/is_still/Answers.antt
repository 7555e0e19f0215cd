use Rattle.std.proofs.Common.{◌∙◌, sym}
use Rattle.run_walk.proofs.Quietly.{still_steps-change}
use Rattle.run_walk.proofs.quiet.is_still.Goals as goal

pub returns : goal.returns
returns g c = λ still. still_steps-change c.args.c c.args.machine.now c.rules.ensures.good (sym c.is_still_cpu.ensures ∙ still)
