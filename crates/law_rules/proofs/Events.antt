-- Each call on an event leaves the state good but for what its processor settles.
use Rattle.std.proofs.Common.{◌≡◌, ℕ, zero, suc, ◌<◌, List, Bool, true, false, not, Option, Some, None, length, refl, ap, sym, ◌∙◌, arith}
use Rattle.std.specs.Prelude.{slice_get, nat_le, ◌==◌, if◌then◌else◌}
use Rattle.std.proofs.lemmas.Bool.Decides.{nat_tests}
use Rattle.evm_model.specs.Boosts.{is_number}
use Rattle.evm_model.proofs.Lists.{change-here, slice_get-below}
use Rattle.evm_model.specs.Events.{add_event, new_event, bound, bound_of, has_other, holds_alone, holding_refusal, begin_event_wait, event_wait_unless, event_wait_with, event_wait_known, event_wait, signal_to, signal_first, signal_rounds, signal_known, signal, broadcast}
use Rattle.evm_model.specs.Good.{IsOwn, is_mutex}
use Rattle.evm_model.specs.Lists.{change}
use Rattle.evm_model.specs.Mutexes.{owner, freed, lock_of, lock_of_task, lock_at, owns_any}
use Rattle.evm_model.specs.Passing.{hand_over}
use Rattle.evm_model.specs.Pipes.{Pipe}
use Rattle.evm_model.specs.Ranks.{is_oob_ready}
use Rattle.evm_model.specs.Stages.{is_stalled, wait_refusal}
use Rattle.evm_model.specs.State.{Parts, on_event}
use Rattle.evm_model.specs.Waits.{first_waiter}
use Rattle.evm_model.specs.declared.call.Outcome.{Outcome}
use Rattle.evm_model.specs.declared.errno.Errno.{Errno}
use Rattle.evm_model.specs.declared.errno.Errno.TheVariants.{NotPermitted}
use Rattle.evm_model.specs.declared.limits.TheConstants.{EVENT_LIMIT}
use Rattle.evm_model.specs.declared.mutex.Mutex.{Mutex}
use Rattle.evm_model.specs.declared.stage.Stage.TheVariants.{OutOfBand}
use Rattle.evm_model.specs.declared.task.TaskState.{TaskState}
use Rattle.evm_model.specs.declared.task.TaskState.TheVariants.{OobReady}
use Rattle.evm_model.specs.declared.task.Wait.TheVariants.{Event}
use Rattle.law_rules.proofs.Acting.{IsOpen, but-awaits, but-stirs}
use Rattle.law_rules.proofs.Done.{IsDone, either, may-wait, not-closed, stirs-done}
use Rattle.law_rules.proofs.Firsts.{IsOobOwn, both}
use Rattle.law_rules.proofs.Passing.{hand_over-stirs, hand_over-events, hand_over-mutexes, hand_over-owner, owns-none}
use Rattle.law_rules.proofs.Settling.{GoodBut}
use Rattle.law_rules.proofs.Shapes.{IsShaped}
use Rattle.law_rules.proofs.Stirring.{Stirs, stirs-none, stirs-then, stirs-events, reacquire-stirs, first-awaits}
use Rattle.law_rules.proofs.Waited.{events-add, events-set}
use Rattle.law_rules.proofs.Waking.{alike-oob_own}

-- ---- signals
signal_to-stirs : (o : Option ℕ) (e : ℕ) (k : Parts) → first_waiter (Event e) k ≡ o → IsShaped k → Stirs k (signal_to o e k)
signal_to-stirs None e k h s = stirs-none k s
signal_to-stirs (Some t) e k h s = reacquire-stirs e t 0 k (first-awaits e t k h) s

signal_first-stirs : (e : ℕ) (k : Parts) → IsShaped k → Stirs k (signal_first e k)
unfolding signal_first
signal_first-stirs e k s = signal_to-stirs (first_waiter (Event e) k) e k refl s

pub signal_rounds-stirs : (e n : ℕ) (k : Parts) → IsShaped k → Stirs k (signal_rounds e n k)
unfolding signal_rounds
signal_rounds-stirs e zero k s = stirs-none k s
signal_rounds-stirs e (suc n) k s =
    let so_far : Stirs k (signal_rounds e n k) = signal_rounds-stirs e n k s in
    stirs-then k (signal_rounds e n k) _ so_far (signal_first-stirs e (signal_rounds e n k) so_far.shape)

-- ---- a wait for an event
holds : (b : Bool) → (if b then None else Some NotPermitted) ≡ None → b ≡ true
holds true e = refl
holds false e = cc

apart : (b : Bool) → not b ≡ true → b ≡ false
apart true e = cc
apart false e = refl

-- the task owns this mutex and no other
alone-none : (t m : ℕ) (mutex : Mutex) (k : Parts) → holding_refusal t m mutex k ≡ None → (n : ℕ) → owner (change (λ mutex. freed mutex) k.mutexes m) n ≡ Some t → ⊥
alone-none t m mutex k e = owns-none t (change freed k.mutexes m) (apart (owns_any t (change freed k.mutexes m)) (both (mutex.count == 1) (not (owns_any t (change freed k.mutexes m))) (both (is_number mutex.owner t) _ (holds (holds_alone t m mutex k) e)).1).1)

oob-lockless : (s : TaskState) → is_oob_ready s ≡ true → lock_of s ≡ None
oob-lockless OobReady e = refl
oob-lockless _ e = cc

mutex-there : (m : ℕ) (mutexes : List Mutex) → m < length mutexes → is_mutex (Some m) mutexes ≡ true
mutex-there m mutexes h = grind (arith, nat_tests)

named-again : (o : Option ℕ) (mutexes new : List Mutex) → length new ≡ length mutexes → is_mutex o mutexes ≡ true → is_mutex o new ≡ true
named-again None mutexes new e h = cc
named-again (Some m) mutexes new e h = grind (arith, nat_tests)

named-here : (e m : ℕ) (k : Parts) (x : Option ℕ) → slice_get k.events e ≡ Some x → bound e (on_event e (λ old. Some m) k) ≡ Some m
named-here e m k x at = ap bound_of (change-here (λ (old : Option ℕ). Some m) k.events e) ∙ rw at refl

begin-but : (c t e m : ℕ) (x : Option ℕ) (mutex : Mutex) (deadline : ℕ) (k : Parts) → GoodBut c k → IsOobOwn c t k.tasks → slice_get k.events e ≡ Some x → slice_get k.mutexes m ≡ Some mutex → holding_refusal t m mutex k ≡ None → IsOpen c k
    → GoodBut c (begin_event_wait t e m deadline k)
unfolding begin_event_wait
begin-but c t e m x mutex deadline k g w at there alone opened =
    let named : Parts = on_event e (λ old. Some m) k in
    let passed : Parts = hand_over m named in
    let is : is_mutex (Some m) k.mutexes ≡ true = mutex-there m k.mutexes (slice_get-below k.mutexes m mutex there) in
    let first : Stirs k named = stirs-events k (change (λ (old : Option ℕ). Some m) k.events e) (events-set k.events k.mutexes k.tasks e m is g.shape.events) g.shape in
    let second : Stirs named passed = hand_over-stirs m named first.shape in
    let all : Stirs k passed = stirs-then k named passed first second in
    let idle : lock_at named.tasks t ≡ None = ap lock_of_task w.there ∙ oob-lockless w.task.state w.ready in
    let free : (n : ℕ) → owner passed.mutexes n ≡ Some t → ⊥ = λ n h. alone-none t m mutex k alone n (hand_over-owner m n t named idle h) in
    let mine : bound e passed ≡ Some m = ap (λ (events : List (Option ℕ)). bound_of (slice_get events e)) (hand_over-events m named) ∙ named-here e m k x at in
    let still : is_mutex (bound e passed) passed.mutexes ≡ true = rw mine (named-again (Some m) k.mutexes passed.mutexes (hand_over-mutexes m named) is) in
    let open_there : IsOpen c passed = record { open_there = λ pipe h. opened.open_there pipe (ap (λ (pipes : List Pipe). slice_get pipes c) (sym all.pipes) ∙ h) } in
    but-awaits c t e deadline passed still free open_there (alike-oob_own c t k.tasks passed.tasks (all.alike c) w) (but-stirs c k passed all g)

module _ (c t : ℕ) (k : Parts) (g : GoodBut c k) (o : IsOwn c t k.tasks) where
  same : (outcome : Outcome) → IsDone c t (k, outcome)
  same outcome = record { but = g; own = λ v n. o }

  pub new_event-done : IsDone c t (new_event k)
  unfolding new_event add_event
  new_event-done = either c t (nat_le EVENT_LIMIT (length k.events)) _ _ (λ e. same _) (λ e. stirs-done c t k _ _ (stirs-events k _ (events-add k.events k.mutexes k.tasks g.shape.events) g.shape) g o)

  unless-done : (x : Option Errno) (e m deadline : ℕ) → (x ≡ None → GoodBut c (begin_event_wait t e m deadline k)) → IsDone c t (event_wait_unless x t e m deadline k)
  unless-done (Some error) e m deadline h = same _
  unless-done None e m deadline h = record { but = h refl; own = λ v n. cc }

  with-done : (x : Option ℕ) (y : Option Mutex) (e m deadline : ℕ) → slice_get k.events e ≡ Some x → slice_get k.mutexes m ≡ y → IsOobOwn c t k.tasks → IsDone c t (event_wait_with y c t e m deadline k)
  with-done x None e m deadline at there w = same _
  with-done x (Some mutex) e m deadline at there w =
      either c t (has_other e m k) _ _ (λ h. same _) (λ h.
      unless-done (wait_refusal (is_stalled OutOfBand c k) (holding_refusal t m mutex k) k.ticks deadline) e m deadline (λ h.
      let may = may-wait (is_stalled OutOfBand c k) (holding_refusal t m mutex k) k.ticks deadline h in
      begin-but c t e m x mutex deadline k g w at there may.1 (not-closed c k may.0)))

  known-done : (x : Option (Option ℕ)) (e m deadline : ℕ) → slice_get k.events e ≡ x → IsOobOwn c t k.tasks → IsDone c t (event_wait_known x c t e m deadline k)
  known-done None e m deadline at w = same _
  known-done (Some x) e m deadline at w = with-done x (slice_get k.mutexes m) e m deadline at refl w

  pub event_wait-done : (e m deadline : ℕ) → IsOobOwn c t k.tasks → IsDone c t (event_wait c t e m deadline k)
  unfolding event_wait
  event_wait-done e m deadline w = known-done (slice_get k.events e) e m deadline refl w

  signal_known-done : (x : Option (Option ℕ)) (e rounds : ℕ) → IsDone c t (signal_known x e rounds k)
  signal_known-done None e rounds = same _
  signal_known-done (Some mutex) e rounds = stirs-done c t k (signal_rounds e rounds k) _ (signal_rounds-stirs e rounds k g.shape) g o

  pub signal-done : (e : ℕ) → IsDone c t (signal e k)
  unfolding signal
  signal-done e = signal_known-done (slice_get k.events e) e 1

  pub broadcast-done : (e : ℕ) → IsDone c t (broadcast e k)
  unfolding broadcast
  broadcast-done e = signal_known-done (slice_get k.events e) e (length k.tasks)
