use Rattle.std.proofs.Common.{◌≡◌, ◌∙◌, ℕ, Some, None, true, false, sym, ap, refl}
use Rattle.std.specs.Prelude.{slice_get, not, is_some, Option}
use Rattle.std.proofs.lemmas.Option.{slice_get_read, slice_get_past}
use Rattle.evm_ready.specs.Queues.{AreQueued}
use Rattle.evm_ready.proofs.Filing.{queue_of, leave-none, leave-past, left, bitmap-set, use-left, use-empty}
use Rattle.evm_ready.proofs.queues.Queues.leave.Goals as goal

is_none-none : (o : Option ℕ) → false ≡ is_some o → o ≡ None
is_none-none None h = refl
is_none-none (Some x) h = cc

some-some : (o : Option ℕ) → is_some o ≡ true → (x : ℕ) × (o ≡ Some x)
some-some None h = cc
some-some (Some x) h = (x, refl)

pub returns-in_default-clause-queued : goal.returns-in_default-clause-queued
returns-in_default-clause-queued c =
    leave-none c.args.turns.now c.args.t c.args.self.now (sym c.in_default.ensures) c.requires

pub returns-in_default-get_mut-clause-queued : goal.returns-in_default-get_mut-clause-queued
returns-in_default-get_mut-clause-queued c =
    let e : queue_of c.args.turns.now c.args.t ≡ Some c.in-Some.q = sym c.in-Some.ensures in
    let was : AreQueued c.args.turns.now c.self.inside.queues.items = rw c.self.view_is c.requires in
    leave-past c.args.turns.now c.args.t c.in-Some.q c.self.inside.queues.items e (slice_get_past c.self.inside.queues.items c.in-Some.q c.in_default-get_mut.ensures.item.3) was

pub remove-requires : goal.remove-requires
remove-requires c =
    let there : slice_get c.self.inside.queues.items c.in-Some.q ≡ Some c.in-Some-get_mut.queue.now =
    slice_get_read _ _ c.in-Some.q _ refl c.in-Some-get_mut.ensures.item.3.0 c.in-Some-get_mut.ensures.item.1 in
    let was : AreQueued c.args.turns.now c.self.inside.queues.items = rw c.self.view_is c.requires in
    (was.queued c.in-Some.q c.in-Some-get_mut.queue.now there).in_order

pub returns-then-is_none-clause-queued : goal.returns-then-is_none-clause-queued
returns-then-is_none-clause-queued c =
    let e : queue_of c.args.turns.now c.args.t ≡ Some c.in-Some.q = sym c.in-Some.ensures in
    let there : slice_get c.self.inside.queues.items c.in-Some.q ≡ Some c.in-Some-get_mut.queue.now =
    slice_get_read _ _ c.in-Some.q _ refl c.in-Some-get_mut.ensures.item.3.0 c.in-Some-get_mut.ensures.item.1 in
    let was : AreQueued c.args.turns.now c.self.inside.queues.items = rw c.self.view_is c.requires in
    left c.args.turns.now c.args.t c.in-Some.q c.self.inside.queues.items c.in-Some-get_mut.queue.now c.remove.new.self e there was c.remove.ensures.order c.remove.ensures.members

pub returns-else-is_none-clause-queued : goal.returns-else-is_none-clause-queued
returns-else-is_none-clause-queued c =
    let e : queue_of c.args.turns.now c.args.t ≡ Some c.in-Some.q = sym c.in-Some.ensures in
    let there : slice_get c.self.inside.queues.items c.in-Some.q ≡ Some c.in-Some-get_mut.queue.now =
    slice_get_read _ _ c.in-Some.q _ refl c.in-Some-get_mut.ensures.item.3.0 c.in-Some-get_mut.ensures.item.1 in
    let was : AreQueued c.args.turns.now c.self.inside.queues.items = rw c.self.view_is c.requires in
    left c.args.turns.now c.args.t c.in-Some.q c.self.inside.queues.items c.in-Some-get_mut.queue.now c.remove.new.self e there was c.remove.ensures.order c.remove.ensures.members

pub invariant_of-self : goal.invariant_of-self
invariant_of-self c =
    let none : c.head.result ≡ None = is_none-none c.head.result (sym (c.is_none.ensures ∙ ap not c.if-is_none.true)) in
    let empty : slice_get c.remove.new.self 0 ≡ None = sym c.head.ensures ∙ none in
    bitmap-set c.self.inside.words c.clear_bit.new.words c.self.inside.queues.items c.in-Some.q c.remove.new.self c.self.invariant c.clear_bit.auto.words
    (c.clear_bit.ensures.cleared ∙ sym (use-empty c.remove.new.self empty)) c.clear_bit.ensures.others

pub invariant_of-self-else-is_none : goal.invariant_of-self-else-is_none
invariant_of-self-else-is_none c =
    let there : slice_get c.self.inside.queues.items c.in-Some.q ≡ Some c.in-Some-get_mut.queue.now =
    slice_get_read _ _ c.in-Some.q _ refl c.in-Some-get_mut.ensures.item.3.0 c.in-Some-get_mut.ensures.item.1 in
    let some = some-some c.head.result (c.is_none.ensures ∙ ap not c.if-is_none.false) in
    let at : slice_get c.remove.new.self 0 ≡ Some some.0 = sym c.head.ensures ∙ some.1 in
    bitmap-set c.self.inside.words c.self.inside.words c.self.inside.queues.items c.in-Some.q c.remove.new.self c.self.invariant refl
    (c.self.invariant.bits c.in-Some.q c.in-Some-get_mut.queue.now there ∙ use-left c.in-Some-get_mut.queue.now c.remove.new.self c.args.t some.0 c.remove.ensures.members at)
    (λ p other. refl)
