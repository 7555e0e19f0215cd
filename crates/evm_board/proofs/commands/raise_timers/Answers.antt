use Rattle.std.proofs.Common.{◌+◌, ◌-◌, ◌∙◌, List, sym, ap, arith}
use Rattle.evm_model.specs.Bounds.{COUNT_LIMIT}
use Rattle.evm_model.specs.Pipes.{Pipe, raise}
use Rattle.evm_model.specs.State.{Parts, on_pipe}
use Rattle.evm_model.specs.declared.limits.TheConstants.{PROCESSOR_LIMIT}
use Rattle.law_rules.proofs.Counted.{PipesUpTo-more}
use Rattle.law_rules.proofs.Counting.{on_raise-up}
use Rattle.evm_board.proofs.Ticks.{timers-none, timers-more, timers-all}
use Rattle.evm_board.proofs.commands.raise_timers.Goals as goal

pub loop-c-init : goal.loop-c-init
loop-c-init c = record { raised = sym (timers-none c.args.parts.now); room = PipesUpTo-more _ _ _ (omega arith) c.requires }

pub raise-requires-clause-room : goal.raise-requires-clause-room
raise-requires-clause-room c = PipesUpTo-more _ _ _ (omega arith) c.loop-c.invariant.room

pub loop-c-preserved : goal.loop-c-preserved
loop-c-preserved c = record {
  raised = c.raise.ensures ∙ ap (on_pipe c.loop-c.c (raise 0)) c.loop-c.invariant.raised ∙ timers-more c.loop-c.c c.args.parts.now;
  room =
      rw c.raise.ensures (PipesUpTo-more (COUNT_LIMIT - PROCESSOR_LIMIT + c.loop-c.c + 1) _ _ (omega arith) (on_raise-up _ c.loop-c.c 0 c.loop-c.parts c.loop-c.invariant.room));
}

pub returns : goal.returns
returns c =
    let k : Parts = c.args.parts.now in
    c.loop-c.invariant.raised ∙ ap (λ (ps : List Pipe). record k { pipes = ps }) (timers-all c.loop-c.c k.pipes (omega arith))
