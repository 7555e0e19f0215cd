use Rattle.std.proofs.Common.{refl}
use Rattle.std.proofs.lemmas.Option.{slice_get_read}
use Rattle.evm_task.proofs.Changed.{changed}
use Rattle.evm_task.proofs.Early.{early-kept}
use Rattle.evm_task.proofs.tasks.Tasks.clear_policy.Goals as goal

pub invariant_of-self-2 : goal.invariant_of-self-2
invariant_of-self-2 c =
    let there = slice_get_read _ _ c.args.t _ refl c.in-Some.ensures.item.3.0 c.in-Some.ensures.item.1 in
    early-kept _ _ _ _ _ c.self.invariant there refl

pub returns : goal.returns
returns c =
    let there = slice_get_read _ _ c.args.t _ refl c.in-Some.ensures.item.3.0 c.in-Some.ensures.item.1 in
    changed _ _ _ _ _ there c.self.view_is
