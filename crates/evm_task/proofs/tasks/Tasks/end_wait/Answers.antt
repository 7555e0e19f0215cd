use Rattle.std.proofs.Common.{refl, arith}
use Rattle.std.proofs.lemmas.Option.{slice_get_read}
use Rattle.evm_model.specs.Waits.{woken}
use Rattle.evm_task.proofs.Changed.{changed}
use Rattle.evm_task.proofs.Early.{early-set}
use Rattle.evm_task.proofs.tasks.Tasks.end_wait.Goals as goal

pub invariant_of-self-2 : goal.invariant_of-self-2
invariant_of-self-2 c =
    early-set _ _ _ _ _ c.self.invariant (omega arith) (λ some. absurd (some (rw c.wake.ensures refl)))

pub returns : goal.returns
returns c =
    let there = slice_get_read _ _ c.args.t _ refl c.in-Some.ensures.item.3.0 c.in-Some.ensures.item.1 in
    rw c.wake.ensures (changed (woken c.args.owns) _ _ _ _ there c.self.view_is)
