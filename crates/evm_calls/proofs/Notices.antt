-- Room for a notice: a task that goes in-band makes none itself, and a call on a mutex that is refused changes nothing.
use Rattle.std.proofs.Common.{arith, ◌≡◌, ℕ, ◌≤◌, true, ap, sym, ◌∙◌}
use Rattle.std.specs.Prelude.{slice_get}
use Rattle.evm_model.specs.Bounds.{COUNT_LIMIT, PER_CALL, HasRoom}
use Rattle.evm_model.specs.Locks.{lock_known, try_known, unlock_known}
use Rattle.evm_model.specs.Notices.{is_refused}
use Rattle.evm_model.specs.State.{Parts}
use Rattle.evm_model.specs.Tasks.{demote, restamp, set_state}
use Rattle.evm_model.specs.declared.call.Outcome.{Outcome}
use Rattle.evm_model.specs.declared.errno.Errno.{Errno}
use Rattle.evm_model.specs.declared.errno.Errno.TheVariants.{NotPermitted, Deadlock}
use Rattle.law_rules.proofs.Unchanged.{RestsAt, lock_rests, try_rests, unlock_rests}

notices_fit : (k : Parts) → HasRoom PER_CALL k → k.notices.total ≤ COUNT_LIMIT
notices_fit k room = omega (arith, room.notices)

pub demote_room : (c t : ℕ) (k : Parts) → HasRoom PER_CALL k → (demote c t k).notices.total ≤ COUNT_LIMIT
unfolding demote restamp set_state
demote_room c t k room = notices_fit k room

refused_room : (e : Errno) (k new : Parts) (outcome : Outcome) (done : Parts × Outcome) → RestsAt e k done → HasRoom PER_CALL k → (new, outcome) ≡ done
    → is_refused e outcome ≡ true → new.notices.total ≤ COUNT_LIMIT
refused_room e k new outcome done rests room is refuses =
    let told : is_refused e done.1 ≡ true = ap (λ (d : Parts × Outcome). is_refused e d.1) (sym is) ∙ refuses in
    let same : new ≡ k = ap (λ (d : Parts × Outcome). d.0) is ∙ rests told in
    rw same (notices_fit k room)

module _ (t m : ℕ) (k new : Parts) (outcome : Outcome) (room : HasRoom PER_CALL k) where
  pub lock_room : (c deadline : ℕ) → (new, outcome) ≡ lock_known (slice_get k.mutexes m) c t m deadline k → is_refused Deadlock outcome ≡ true → new.notices.total ≤ COUNT_LIMIT
  lock_room c deadline is = refused_room Deadlock k new outcome _ (lock_rests t m k (slice_get k.mutexes m) c deadline) room is

  pub try_room : (new, outcome) ≡ try_known (slice_get k.mutexes m) t m k → is_refused Deadlock outcome ≡ true → new.notices.total ≤ COUNT_LIMIT
  try_room is = refused_room Deadlock k new outcome _ (try_rests t m k (slice_get k.mutexes m)) room is

  pub unlock_room : (new, outcome) ≡ unlock_known (slice_get k.mutexes m) t m k → is_refused NotPermitted outcome ≡ true → new.notices.total ≤ COUNT_LIMIT
  unlock_room is = refused_room NotPermitted k new outcome _ (unlock_rests t m k (slice_get k.mutexes m)) room is

pub ruleset demoted = (demote_room)

pub ruleset unlocked = (unlock_room)
