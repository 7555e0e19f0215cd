use Rattle.std.proofs.Common.{◌∙◌, Option, subst, ap, arith}
use Rattle.evm_model.specs.Replay.{IsReplayOf}
use Rattle.evm_model.specs.State.{State}
use Rattle.evm_model.specs.declared.refusal.Refusal.{Refusal}
use Rattle.evm_core.proofs.Many.{steps-zero, steps-after, steps-replays}
use Rattle.evm_core.proofs.machine.Machine.steps.Goals as goal

pub loop-left-preserved : goal.loop-left-preserved
loop-left-preserved g c = record {
  others = c.loop-left.invariant.others ∙ steps-after c.in-Ok.done c.loop-left.left c.args.c _ _ c.in-Ok.ensures.made.1 c.in-Ok.ensures.made.2;
  booted = c.some_steps.ensures.booted ∙ c.loop-left.invariant.booted;
}

pub returns-in-Err-clause-replays : goal.returns-in-Err-clause-replays
returns-in-Err-clause-replays g c first h =
    let whole = c.loop-left.invariant.others ∙ c.in-Err.ensures.made in
    subst (IsReplayOf first) (ap (λ (x : State × Option Refusal). x.0) whole) (steps-replays c.args.count c.args.c first c.args.self.now h)

pub returns-clause-made : goal.returns-clause-made
returns-clause-made g c = c.loop-left.invariant.others ∙ steps-zero c.loop-left.left c.args.c c.loop-left.self (omega arith)

pub returns-clause-replays : goal.returns-clause-replays
returns-clause-replays g c first h =
    let whole = c.loop-left.invariant.others ∙ steps-zero c.loop-left.left c.args.c c.loop-left.self (omega arith) in
    subst (IsReplayOf first) (ap (λ (x : State × Option Refusal). x.0) whole) (steps-replays c.args.count c.args.c first c.args.self.now h)
