use Rattle.std.proofs.Common.{refl}
use Rattle.std.proofs.lemmas.Option.{slice_get_read}
use Rattle.evm_task.proofs.Changed.{changed}
use Rattle.evm_task.proofs.Early.{early-set, lowered-bound, lowered-deadline}
use Rattle.evm_task.proofs.tasks.Tasks.begin_wait.Goals as goal

pub invariant_of-self : goal.invariant_of-self
invariant_of-self c =
    rw c.lowered-self-inside.ensures (early-set _ _ _ _ _ c.self.invariant (lowered-bound _ _) (λ some. lowered-deadline _ _ some))

pub returns-in-Some : goal.returns-in-Some
returns-in-Some c =
    let there = slice_get_read _ _ c.args.t _ refl c.in-Some.ensures.item.3.0 c.in-Some.ensures.item.1 in
    changed _ _ _ _ _ there c.self.view_is
