use Rattle.std.proofs.Common.{◌+◌, ◌-◌, ◌∙◌, sym, ap, arith}
use Rattle.evm_model.specs.Bounds.{COUNT_LIMIT}
use Rattle.evm_model.specs.declared.limits.TheConstants.{PROCESSOR_LIMIT}
use Rattle.law_rules.proofs.Counted.{PipesUpTo-more}
use Rattle.evm_settle.specs.Nudges.{nudge_one}
use Rattle.evm_settle.proofs.Nudges.{nudge_one-none, nudge_one-more, nudge_one-all, nudge_one-up}
use Rattle.evm_settle.proofs.nudging.nudge_others.Goals as goal

pub loop-d-init : goal.loop-d-init
loop-d-init c = record { told = sym (nudge_one-none c.args.c c.args.parts.now); room = PipesUpTo-more _ _ _ (omega arith) c.requires }

pub nudge_one-requires : goal.nudge_one-requires
nudge_one-requires c = PipesUpTo-more _ _ _ (omega arith) c.loop-d.invariant.room

pub loop-d-preserved : goal.loop-d-preserved
loop-d-preserved c = record {
  told = c.nudge_one.ensures ∙ ap (nudge_one c.args.c c.loop-d.d) c.loop-d.invariant.told ∙ nudge_one-more c.args.c c.loop-d.d c.args.parts.now;
  room =
      rw c.nudge_one.ensures (PipesUpTo-more (COUNT_LIMIT - PROCESSOR_LIMIT + c.loop-d.d + 1) _ _ (omega arith) (nudge_one-up _ c.args.c c.loop-d.d c.loop-d.parts c.loop-d.invariant.room));
}

pub returns : goal.returns
returns c = c.loop-d.invariant.told ∙ nudge_one-all c.args.c c.loop-d.d c.args.parts.now (omega arith)
