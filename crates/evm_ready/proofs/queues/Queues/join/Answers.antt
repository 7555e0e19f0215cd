use Rattle.std.proofs.Common.{◌≡◌, ◌∙◌, Some, true, ◌∷◌, sym, refl}
use Rattle.std.specs.Prelude.{slice_get}
use Rattle.std.proofs.lemmas.Option.{slice_get_read, slice_get_past}
use Rattle.evm_ready.specs.Queues.{AreQueuedBut, has}
use Rattle.evm_ready.proofs.Members.{has-at}
use Rattle.evm_ready.proofs.Filing.{queue_of, join-none, join-past, joined, room-for, absent-from, bitmap-set, use-has}
use Rattle.evm_ready.proofs.queues.Queues.join.Goals as goal

pub returns-in_default-clause-queued : goal.returns-in_default-clause-queued
returns-in_default-clause-queued c =
    join-none c.args.turns.now c.args.t c.args.self.now (sym c.in_default.ensures) c.requires.queued

pub returns-in_default-get_mut-clause-queued : goal.returns-in_default-get_mut-clause-queued
returns-in_default-get_mut-clause-queued c =
    let e : queue_of c.args.turns.now c.args.t ≡ Some c.in-Some.q = sym c.in-Some.ensures in
    let was : AreQueuedBut c.args.t c.args.turns.now c.self.inside.queues.items = rw c.self.view_is c.requires.queued in
    join-past c.args.turns.now c.args.t c.in-Some.q c.self.inside.queues.items e (slice_get_past c.self.inside.queues.items c.in-Some.q c.in_default-get_mut.ensures.item.3) was

pub insert-requires-clause-room : goal.insert-requires-clause-room
insert-requires-clause-room c =
    let e : queue_of c.args.turns.now c.args.t ≡ Some c.in-Some.q = sym c.in-Some.ensures in
    let there : slice_get c.self.inside.queues.items c.in-Some.q ≡ Some c.in-Some-get_mut.queue.now =
    slice_get_read _ _ c.in-Some.q _ refl c.in-Some-get_mut.ensures.item.3.0 c.in-Some-get_mut.ensures.item.1 in
    let was : AreQueuedBut c.args.t c.args.turns.now c.self.inside.queues.items = rw c.self.view_is c.requires.queued in
    room-for c.args.turns.now c.args.t c.in-Some.q c.self.inside.queues.items c.in-Some-get_mut.queue.now c.requires.limit e there was

pub insert-requires-clause-order : goal.insert-requires-clause-order
insert-requires-clause-order c =
    let there : slice_get c.self.inside.queues.items c.in-Some.q ≡ Some c.in-Some-get_mut.queue.now =
    slice_get_read _ _ c.in-Some.q _ refl c.in-Some-get_mut.ensures.item.3.0 c.in-Some-get_mut.ensures.item.1 in
    let was : AreQueuedBut c.args.t c.args.turns.now c.self.inside.queues.items = rw c.self.view_is c.requires.queued in
    (was.queued c.in-Some.q c.in-Some-get_mut.queue.now there).in_order

pub insert-requires-clause-new : goal.insert-requires-clause-new
insert-requires-clause-new c =
    let there : slice_get c.self.inside.queues.items c.in-Some.q ≡ Some c.in-Some-get_mut.queue.now =
    slice_get_read _ _ c.in-Some.q _ refl c.in-Some-get_mut.ensures.item.3.0 c.in-Some-get_mut.ensures.item.1 in
    let was : AreQueuedBut c.args.t c.args.turns.now c.self.inside.queues.items = rw c.self.view_is c.requires.queued in
    absent-from c.args.turns.now c.args.t c.in-Some.q c.self.inside.queues.items c.in-Some-get_mut.queue.now there was

pub returns-in-Some-get_mut-clause-queued : goal.returns-in-Some-get_mut-clause-queued
returns-in-Some-get_mut-clause-queued c =
    let e : queue_of c.args.turns.now c.args.t ≡ Some c.in-Some.q = sym c.in-Some.ensures in
    let there : slice_get c.self.inside.queues.items c.in-Some.q ≡ Some c.in-Some-get_mut.queue.now =
    slice_get_read _ _ c.in-Some.q _ refl c.in-Some-get_mut.ensures.item.3.0 c.in-Some-get_mut.ensures.item.1 in
    let was : AreQueuedBut c.args.t c.args.turns.now c.self.inside.queues.items = rw c.self.view_is c.requires.queued in
    joined c.args.turns.now c.args.t c.in-Some.q c.self.inside.queues.items c.in-Some-get_mut.queue.now c.insert.new.self e there was c.insert.ensures.order c.insert.ensures.members

pub invariant_of-self : goal.invariant_of-self
invariant_of-self c =
    let here : has c.insert.new.self c.args.t ≡ true = c.insert.ensures.members c.args.t ∙ has-at (c.args.t ∷ c.in-Some-get_mut.queue.now) 0 c.args.t refl in
    bitmap-set c.self.inside.words c.set_bit.new.words c.self.inside.queues.items c.in-Some.q c.insert.new.self c.self.invariant c.set_bit.auto.words
    (c.set_bit.ensures.set ∙ sym (use-has c.insert.new.self c.args.t here)) c.set_bit.ensures.others
