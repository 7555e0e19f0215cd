use Rattle.std.proofs.Common.{◌≡◌, ◌≤◌, Some, None, length, sym, refl}
use Rattle.std.specs.Prelude.{slice_get}
use Rattle.std.proofs.lemmas.Option.{slice_get_read, slice_get_past}
use Rattle.evm_model.specs.Lists.{change}
use Rattle.evm_model.specs.declared.limits.TheConstants.{TASK_LIMIT}
use Rattle.evm_ready.specs.Queues.{restamped, AreQueued, IsInOrder}
use Rattle.evm_ready.proofs.Filing.{queue_of}
use Rattle.evm_ready.proofs.Restamping.{restamped-none, restamped-past, between-order, between-room, requeued, requeued-bit}
use Rattle.evm_ready.proofs.queues.Queues.restamp.Goals as goal

pub returns-in_default-clause-queued : goal.returns-in_default-clause-queued
returns-in_default-clause-queued c =
    let e : queue_of c.args.turns.now.items c.args.t ≡ None = rw (← c.as_slice.ensures.value) (sym c.in_default.ensures) in
    rw c.set_stamp.ensures (restamped-none c.args.turns.now.items c.args.t c.args.stamp c.args.self.now e c.requires)

pub returns-in_default-get_mut-clause-queued : goal.returns-in_default-get_mut-clause-queued
returns-in_default-get_mut-clause-queued c =
    let e : queue_of c.args.turns.now.items c.args.t ≡ Some c.in-Some.q = rw (← c.as_slice.ensures.value) (sym c.in-Some.ensures) in
    let was : AreQueued c.args.turns.now.items c.self.inside.queues.items = rw c.self.view_is c.requires in
    rw c.set_stamp-in_default-get_mut.ensures
    (restamped-past c.args.turns.now.items c.args.t c.args.stamp c.in-Some.q c.self.inside.queues.items e
    (slice_get_past c.self.inside.queues.items c.in-Some.q c.in_default-get_mut.ensures.item.3) was)

pub remove-requires : goal.remove-requires
remove-requires c =
    let there : slice_get c.self.inside.queues.items c.in-Some.q ≡ Some c.in-Some-get_mut.queue.now =
    slice_get_read _ _ c.in-Some.q _ refl c.in-Some-get_mut.ensures.item.3.0 c.in-Some-get_mut.ensures.item.1 in
    let was : AreQueued c.args.turns.now.items c.self.inside.queues.items = rw c.self.view_is c.requires in
    rw c.as_slice-2.ensures.value (was.queued c.in-Some.q c.in-Some-get_mut.queue.now there).in_order

pub insert-requires-clause-room : goal.insert-requires-clause-room
insert-requires-clause-room c =
    let e : queue_of c.args.turns.now.items c.args.t ≡ Some c.in-Some.q = rw (← c.as_slice.ensures.value) (sym c.in-Some.ensures) in
    let there : slice_get c.self.inside.queues.items c.in-Some.q ≡ Some c.in-Some-get_mut.queue.now =
    slice_get_read _ _ c.in-Some.q _ refl c.in-Some-get_mut.ensures.item.3.0 c.in-Some-get_mut.ensures.item.1 in
    let was : AreQueued c.args.turns.now.items c.self.inside.queues.items = rw c.self.view_is c.requires in
    let order : IsInOrder c.args.turns.now.items c.remove.new.self = rw (← c.as_slice-2.ensures.value) c.remove.ensures.order in
    let limit : length c.args.turns.now.items ≤ TASK_LIMIT = rw (← c.as_slice.ensures.value) c.as_slice.ensures.fits in
    between-room c.args.turns.now.items c.args.t c.args.stamp c.in-Some.q c.self.inside.queues.items c.in-Some-get_mut.queue.now c.remove.new.self limit e there was order c.remove.ensures.members

pub insert-requires-clause-order : goal.insert-requires-clause-order
insert-requires-clause-order c =
    let e : queue_of c.args.turns.now.items c.args.t ≡ Some c.in-Some.q = rw (← c.as_slice.ensures.value) (sym c.in-Some.ensures) in
    let there : slice_get c.self.inside.queues.items c.in-Some.q ≡ Some c.in-Some-get_mut.queue.now =
    slice_get_read _ _ c.in-Some.q _ refl c.in-Some-get_mut.ensures.item.3.0 c.in-Some-get_mut.ensures.item.1 in
    let was : AreQueued c.args.turns.now.items c.self.inside.queues.items = rw c.self.view_is c.requires in
    let order : IsInOrder c.args.turns.now.items c.remove.new.self = rw (← c.as_slice-2.ensures.value) c.remove.ensures.order in
    rw (c.as_slice-3.ensures.value, c.set_stamp-2.ensures)
    (between-order c.args.turns.now.items c.args.t c.args.stamp c.in-Some.q c.self.inside.queues.items c.in-Some-get_mut.queue.now c.remove.new.self e there was order c.remove.ensures.members)

pub invariant_of-self-2 : goal.invariant_of-self-2
invariant_of-self-2 c =
    let e : queue_of c.args.turns.now.items c.args.t ≡ Some c.in-Some.q = rw (← c.as_slice.ensures.value) (sym c.in-Some.ensures) in
    let there : slice_get c.self.inside.queues.items c.in-Some.q ≡ Some c.in-Some-get_mut.queue.now =
    slice_get_read _ _ c.in-Some.q _ refl c.in-Some-get_mut.ensures.item.3.0 c.in-Some-get_mut.ensures.item.1 in
    let was : AreQueued c.args.turns.now.items c.self.inside.queues.items = rw c.self.view_is c.requires in
    requeued-bit c.self.inside.words c.args.turns.now.items c.args.t c.in-Some.q c.self.inside.queues.items c.in-Some-get_mut.queue.now c.remove.new.self c.insert.new.self e there was
    c.insert.ensures.members c.self.invariant

pub returns-clause-queued : goal.returns-clause-queued
returns-clause-queued c =
    let e : queue_of c.args.turns.now.items c.args.t ≡ Some c.in-Some.q = rw (← c.as_slice.ensures.value) (sym c.in-Some.ensures) in
    let there : slice_get c.self.inside.queues.items c.in-Some.q ≡ Some c.in-Some-get_mut.queue.now =
    slice_get_read _ _ c.in-Some.q _ refl c.in-Some-get_mut.ensures.item.3.0 c.in-Some-get_mut.ensures.item.1 in
    let was : AreQueued c.args.turns.now.items c.self.inside.queues.items = rw c.self.view_is c.requires in
    let order : IsInOrder c.args.turns.now.items c.remove.new.self = rw (← c.as_slice-2.ensures.value) c.remove.ensures.order in
    let later : IsInOrder (change (restamped c.args.stamp) c.args.turns.now.items c.args.t) c.insert.new.self =
    rw (← c.set_stamp-2.ensures, ← c.as_slice-3.ensures.value) c.insert.ensures.order in
    rw c.set_stamp-2.ensures
    (requeued c.args.turns.now.items c.args.t c.args.stamp c.in-Some.q c.self.inside.queues.items c.in-Some-get_mut.queue.now c.remove.new.self c.insert.new.self e there was order
    c.remove.ensures.members later c.insert.ensures.members)
