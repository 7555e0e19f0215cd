-- One lemma a call on an event: the call is a walk; and so is how the wait of a task for an event ends.
use Rattle.std.proofs.Common.{◌≡◌, ℕ, zero, suc, ◌+◌, ◌<◌, ◌≤◌, Bool, true, false, Option, Some, None, length, ◌⊎◌, inl, inr, refl, ap, sym, ◌∙◌, arith}
use Rattle.std.specs.Prelude.{slice_get, option_map, nat_le, not, ◌==◌, ◌&&◌, if◌then◌else◌}
use Rattle.std.proofs.lemmas.Bool.Decides.{nat_tests}
use Rattle.evm_model.specs.Boosts.{is_number}
use Rattle.evm_model.proofs.Greatest.{boosts-is}
use Rattle.evm_exec.specs.declared.hart.Hart.{Hart}
use Rattle.evm_model.specs.Events.{add_event, new_event, reacquire_from, reacquire_of, bound, bound_of, reacquire, has_other, holds_alone, holding_refusal, begin_event_wait, event_wait_unless, event_wait_with, event_wait_known, event_wait, signal_to, signal_first, signal_rounds, signal_known, signal, broadcast}
use Rattle.evm_model.specs.Harts.{argument}
use Rattle.evm_model.specs.Lists.{change}
use Rattle.evm_model.specs.Mutexes.{owner, owner_of, owns_any, freed, held_by}
use Rattle.evm_model.specs.Passing.{hand_over_to, hand_over}
use Rattle.evm_model.specs.Stages.{is_stalled, late, or_else, wait_refusal}
use Rattle.evm_model.specs.State.{Parts, on_event, on_mutex}
use Rattle.evm_model.specs.Tasks.{restamp}
use Rattle.evm_model.specs.Waits.{first_waiter, wake}
use Rattle.evm_model.specs.declared.errno.Errno.{Errno}
use Rattle.evm_model.specs.declared.errno.Errno.TheVariants.{NotPermitted}
use Rattle.evm_model.specs.declared.limits.TheConstants.{EVENT_LIMIT}
use Rattle.evm_model.specs.declared.mutex.Mutex.{Mutex}
use Rattle.evm_model.specs.declared.stage.Stage.TheVariants.{OutOfBand}
use Rattle.evm_model.specs.declared.task.Task.{Task}
use Rattle.evm_model.specs.declared.task.TaskState.TheVariants.{Waits}
use Rattle.evm_model.specs.declared.task.Wait.TheVariants.{Lock, Event}
use Rattle.evm_model.proofs.Lists.{change-here, slice_get-below}
use Rattle.law_rules.proofs.LockWalks.{either, up, same}
use Rattle.law_rules.proofs.PassingWalks.{passes, stayed_same, tasks_on}
use Rattle.law_rules.proofs.Waiters.{IsWaiter, first_is, wait_is}
use Rattle.law_rules.proofs.Walk.{Actor, Untouched, Makes, Ends, signalled, late as due, regained, awaits_event, wakes, regains, requeues, names, adds_event, Walk, quietly, stamped, slack}

-- ---- a wait for an event ends
-- .. for the same reason where the clock is the same
ends_on : (a : Actor) (old : Parts) (e answer : ℕ) (x : Task) (k y : Parts) → y.ticks ≡ k.ticks → Ends a old e x k answer → Ends a old e x y answer
ends_on a old e _ x k y same (signalled hart call is) = signalled hart call is
ends_on a old e _ x k y same (due h) = due (record { set = h.set; come = rw same h.come; home = h.home })

-- what the owner of a mutex that was given has
held_is : (u m : ℕ) (k : Parts) (x : Mutex) → slice_get (on_mutex m (held_by u 1) k).mutexes m ≡ Some x → (x.owner ≡ Some u) × (x.count ≡ 1)
held_is u m k x e = from (slice_get k.mutexes m) (sym (change-here (held_by u 1) k.mutexes m) ∙ e)
  where
    from : (o : Option Mutex) → option_map (held_by u 1) o ≡ Some x → (x.owner ≡ Some u) × (x.count ≡ 1)
    from None e = cc
    from (Some y) e = let same : held_by u 1 y ≡ x = cc in (ap (λ (z : Mutex). z.owner) (sym same), ap (λ (z : Mutex). z.count) (sym same))

module _ (a : Actor) (old : Parts) (n s u e answer : ℕ) (x : Task) (k : Parts) (there : slice_get k.tasks u ≡ Some x) (on : x.state ≡ Waits (Event e)) (why : Ends a old e x k answer) (w : Walk a old n s k) where
  reacquires_from : (o : Option ℕ) (m : ℕ) → bound e k ≡ Some m → owner k.mutexes m ≡ o → Walk a old n (s + 1) (reacquire_from o u m answer k)
  reacquires_from None m its free =
      let taken : Parts = on_mutex m (held_by u 1) k in
      stamped a old n s taken _ (wakes u answer x (Event e) taken there on (regained e m answer its (λ mutex at. held_is u m k mutex at) (ends_on a old e answer x k taken refl why)))
      (quietly a old n s k taken (regains u e m x k there on its free) w)
  reacquires_from (Some v) m its owned = stamped a old n s k _ (requeues u v e m answer x k there on its owned why) w

  reacquires_of : (o : Option ℕ) → bound e k ≡ o → Walk a old n (s + 1) (reacquire_of o u answer k)
  reacquires_of None its = slack a old n n s (s + 1) k (λ p. omega arith) (λ p. omega arith) w
  reacquires_of (Some m) its = reacquires_from (owner k.mutexes m) m its refl

  pub ends_event : Walk a old n (s + 1) (reacquire e u answer k)
  unfolding reacquire
  ends_event = reacquires_of (bound e k) refl

-- ---- signals
module _ (a : Actor) (old : Parts) (n e : ℕ) (hart : Hart) (call : Makes a old 43 hart ⊎ Makes a old 44 hart) (is : e ≡ argument 0 hart) where
  signals_to : (o : Option ℕ) (s : ℕ) (k : Parts) → first_waiter (Event e) k ≡ o → Walk a old n s k → Walk a old n (s + 1) (signal_to o e k)
  signals_to None s k first w = slack a old n n s (s + 1) k (λ p. omega arith) (λ p. omega arith) w
  signals_to (Some u) s k first w =
      let waiter : IsWaiter (Event e) u k = first_is (Event e) u k first in
      ends_event a old n s u e 0 waiter.task k waiter.there (wait_is (Event e) waiter.task.state refl waiter.on) (signalled hart call is) w

  signals_rounds : (rounds s : ℕ) (k : Parts) → Walk a old n s k → Walk a old n (s + rounds) (signal_rounds e rounds k)
  unfolding signal_rounds signal_first
  signals_rounds zero s k w = slack a old n n s (s + 0) k (λ p. omega arith) (λ p. omega arith) w
  signals_rounds (suc rounds) s k w =
      let before : Parts = signal_rounds e rounds k in
      let more : s + suc rounds ≡ s + rounds + 1 = omega arith in
      rw more (signals_to (first_waiter (Event e) before) (s + rounds) before refl (signals_rounds rounds s k w))

-- ---- the calls
named_is : (e m : ℕ) (k : Parts) (was : Option ℕ) → slice_get k.events e ≡ Some was → bound e (on_event e (λ _. Some m) k) ≡ Some m
named_is e m k was there = ap bound_of (change-here (λ (_ : Option ℕ). Some m) k.events e ∙ ap (option_map (λ (_ : Option ℕ). Some m)) there)

events_to : (o : Option ℕ) (m : ℕ) (k : Parts) → (hand_over_to o m k).events ≡ k.events
unfolding wake restamp
events_to None m k = refl
events_to (Some u) m k = refl

events_on : (m : ℕ) (k : Parts) → (hand_over m k).events ≡ k.events
unfolding hand_over
events_on m k = events_to (first_waiter (Lock m) k) m k

-- a wait that is not refused has passed the call's own test
no_refusal : (stalled : Bool) (own rest : Option Errno) → or_else (if stalled then Some NotPermitted else None) (or_else own rest) ≡ None → own ≡ None
no_refusal true own rest h = cc
no_refusal false None rest h = refl
no_refusal false (Some error) rest h = cc

no_holding : (b : Bool) → (if b then None else Some NotPermitted) ≡ None → b ≡ true
no_holding true h = refl
no_holding false h = cc

first_of : (b c : Bool) → (b && c) ≡ true → b ≡ true
first_of true c h = refl
first_of false c h = h

module _ (a : Actor) (old k : Parts) (t : ℕ) (own : a.task ≡ Some t) (fresh : Untouched old k) (w : Walk a old 0 0 k) where
  none : Walk a old 1 64 k
  none = same a old k t own fresh w

  pub makes_event : Walk a old 1 64 (new_event k).0
  unfolding new_event add_event
  makes_event =
      either a old (nat_le EVENT_LIMIT (length k.events)) _ _ (λ e. none)
      (λ e. let room : length k.events < EVENT_LIMIT = grind (arith, nat_tests) in
      up a old k t own fresh w 0 0 _ (omega arith) (omega arith) (quietly a old 0 0 k _ (adds_event t k own fresh room) w))

  module _ (x : Hart) where
    abbrev e : ℕ
    e = argument 0 x

    -- ---- 42
    module _ (call : Makes a old 42 x) where
      abbrev m : ℕ
      m = argument 1 x

      begins : (deadline : ℕ) (was : Option ℕ) (mutex : Mutex) → slice_get k.events e ≡ Some was → slice_get k.mutexes m ≡ Some mutex → mutex.owner ≡ Some t → Walk a old 1 64 (begin_event_wait t e m deadline k)
      unfolding begin_event_wait
      begins deadline was mutex there at its =
          let named : Parts = on_event e (λ _. Some m) k in
          let passed : Parts = hand_over m named in
          let small : m < length old.mutexes = rw (ap length (sym fresh.mutexes)) (slice_get-below k.mutexes m mutex at) in
          let binds : bound e passed ≡ Some m = ap (λ xs. bound_of (slice_get xs e)) (events_on m named) ∙ named_is e m k was there in
          up a old k t own fresh w 0 2 _ (omega arith) (omega arith)
          (stamped a old 0 1 passed _ (awaits_event t e m deadline passed own (inl (tasks_on m named ∙ ap length fresh.tasks)) binds small)
          (passes a old 0 t own 0 m named (ap (λ xs. slice_get xs m) fresh.mutexes) (ap owner_of at ∙ its) (stayed_same old named fresh.tasks)
          (quietly a old 0 0 k named (names e m x k call refl refl small fresh) w)))

      waits_unless : (o : Option Errno) (deadline : ℕ) (was : Option ℕ) (mutex : Mutex) → slice_get k.events e ≡ Some was → slice_get k.mutexes m ≡ Some mutex → (o ≡ None → mutex.owner ≡ Some t)
          → Walk a old 1 64 (event_wait_unless o t e m deadline k).0
      waits_unless (Some error) deadline was mutex there at its = none
      waits_unless None deadline was mutex there at its = begins deadline was mutex there at (its refl)

      holds_it : (deadline : ℕ) (mutex : Mutex) → wait_refusal (is_stalled OutOfBand a.cpu k) (holding_refusal t m mutex k) k.ticks deadline ≡ None → mutex.owner ≡ Some t
      holds_it deadline mutex h =
          let alone : holds_alone t m mutex k ≡ true = no_holding (holds_alone t m mutex k) (no_refusal (is_stalled OutOfBand a.cpu k) (holding_refusal t m mutex k) (late k.ticks deadline) h) in
          boosts-is mutex.owner t (first_of (is_number mutex.owner t) (mutex.count == 1 && not (owns_any t (change freed k.mutexes m))) alone)

      waits_with : (o : Option Mutex) (deadline : ℕ) (was : Option ℕ) → slice_get k.events e ≡ Some was → slice_get k.mutexes m ≡ o → Walk a old 1 64 (event_wait_with o a.cpu t e m deadline k).0
      waits_with None deadline was there at = none
      waits_with (Some mutex) deadline was there at =
          either a old (has_other e m k) _ _ (λ other. none)
          (λ one. waits_unless (wait_refusal (is_stalled OutOfBand a.cpu k) (holding_refusal t m mutex k) k.ticks deadline) deadline was mutex there at (holds_it deadline mutex))

      waits_known : (o : Option (Option ℕ)) (deadline : ℕ) → slice_get k.events e ≡ o → Walk a old 1 64 (event_wait_known o a.cpu t e m deadline k).0
      waits_known None deadline there = none
      waits_known (Some was) deadline there = waits_with (slice_get k.mutexes m) deadline was there refl

      pub waits_event : Walk a old 1 64 (event_wait a.cpu t e m (argument 2 x) k).0
      unfolding event_wait
      waits_event = waits_known (slice_get k.events e) (argument 2 x) refl

    -- ---- 43 and 44
    signals_known : (o : Option (Option ℕ)) (rounds : ℕ) → rounds ≤ 64 → Makes a old 43 x ⊎ Makes a old 44 x → Walk a old 1 64 (signal_known o e rounds k).0
    signals_known None rounds few call = none
    signals_known (Some mutex) rounds few call = up a old k t own fresh w 0 (0 + rounds) _ (omega arith) (omega (arith, few)) (signals_rounds a old 0 e x call refl rounds 0 k w)

    pub signals : Makes a old 43 x → Walk a old 1 64 (signal e k).0
    unfolding signal
    signals call = signals_known (slice_get k.events e) 1 (omega arith) (inl call)

    broadcasts_known : (o : Option (Option ℕ)) → Makes a old 44 x → Walk a old 1 64 (signal_known o e (length k.tasks) k).0
    broadcasts_known None call = none
    broadcasts_known (Some mutex) call =
        slack a old 0 1 (0 + length k.tasks) 64 _ (λ p. omega arith) (λ few. omega (arith, few.tasks, ap length fresh.tasks)) (signals_rounds a old 0 e x (inr call) refl (length k.tasks) 0 k w)

    pub broadcasts : Makes a old 44 x → Walk a old 1 64 (broadcast e k).0
    unfolding broadcast
    broadcasts call = broadcasts_known (slice_get k.events e) call
