-- An event makes both of two machines that are alike fail, or neither.
use Rattle.std.proofs.Common.{◌≡◌, ℕ, List, Option, Some, None, true, length, refl, ap, sym, ◌∙◌, inl, inr}
use Rattle.std.specs.Prelude.{slice_get}
use Rattle.evm_exec.specs.declared.hart.Hart.{Hart}
use Rattle.evm_model.specs.Current.{current, current_of}
use Rattle.evm_model.specs.Event.{Event}
use Rattle.evm_model.specs.Mutexes.{owner}
use Rattle.evm_model.specs.Refusals.{is_stopped}
use Rattle.evm_model.specs.State.{Memory, State}
use Rattle.evm_model.specs.declared.errno.Errno.{Errno}
use Rattle.evm_model.specs.declared.event.Answer.{Answer}
use Rattle.evm_model.specs.declared.mutex.Mutex.{Mutex}
use Rattle.evm_model.specs.declared.notice.NoticeKind.{NoticeKind}
use Rattle.evm_model.specs.declared.processor.Processor.{Processor}
use Rattle.evm_model.specs.declared.timer.Timer.{Timer}
use Rattle.hunt_failures.specs.Failures.{Fails, IsAbandoned, IsAnsweredLate, IsAtCall, IsCaller, IsDeadlock, IsDemoted, IsNoticed, IsRefused, IsWokenLate, awaits_timer, ended_at, faulted_at, is_ended_task, is_faulted_task, is_in_band_task, is_late, is_left, is_out_of_band, is_quiet_pipe, is_ready_task, is_stuck_task, is_to_stay, is_waiting_task, is_wanted, is_weak_task, is_zero, live_of, live_owner, stopped_at}
use Rattle.hunt_space.specs.Alike.{FailuresAreAlike}
use Rattle.evm_core.specs.Views.{device_word}
use Rattle.hunt_failures.specs.declared.failure.Failure.{Failure}
use Rattle.hunt_failures.specs.declared.failure.Failure.TheVariants as failures
use Rattle.hunt_failures.specs.declared.wanted.Wanted.{Wanted}
use Rattle.hunt_space.proofs.Reading.{ReadsSame, count-tasks, read-notice, read-pipe, read-task, reads-same}

-- ---- what a failure asks of one state
module _ (a b : State) (r : ReadsSame a.board b.board) where
  pub stopped-same : (c : ℕ) → stopped_at c a ≡ stopped_at c b
  stopped-same c = ap (λ (ps : List Processor). is_stopped (slice_get ps c)) r.processors

  pub current-same : (c : ℕ) → current c a.board.parts ≡ current c b.board.parts
  current-same c = ap (λ (ps : List Processor). current_of (slice_get ps c)) r.processors

  pub quiet-same : (c : ℕ) → is_quiet_pipe (slice_get a.board.parts.pipes c) ≡ is_quiet_pipe (slice_get b.board.parts.pipes c)
  quiet-same c = read-pipe a.board b.board r is_quiet_pipe c (λ x. refl)

  pub pins-same : is_zero (device_word 2 2 a.board.memory.devices) ≡ is_zero (device_word 2 2 b.board.memory.devices)
  pins-same = ap (λ (m : Memory). is_zero (device_word 2 2 m.devices)) r.memory

  pub stuck-same : (lines : List ℕ) (t : ℕ) → is_stuck_task lines a.board.parts.timers (slice_get a.board.parts.tasks t) ≡ is_stuck_task lines b.board.parts.timers (slice_get b.board.parts.tasks t)
  stuck-same lines t =
      read-task a.board b.board r (is_stuck_task lines a.board.parts.timers) t (λ x. refl)
      ∙ ap (λ (timers : List Timer). is_stuck_task lines timers (slice_get b.board.parts.tasks t)) r.timers

  faulted-same : (t : ℕ) → faulted_at t a ≡ faulted_at t b
  faulted-same t = read-task a.board b.board r is_faulted_task t (λ x. refl)

  waiting-same : (t : ℕ) → is_waiting_task (slice_get a.board.parts.tasks t) ≡ is_waiting_task (slice_get b.board.parts.tasks t)
  waiting-same t = read-task a.board b.board r is_waiting_task t (λ x. refl)

  ended-same : (t : ℕ) → ended_at t a ≡ ended_at t b
  ended-same t = read-task a.board b.board r is_ended_task t (λ x. refl)

  hart-same : (t : ℕ) → slice_get a.board.parts.harts t ≡ slice_get b.board.parts.harts t
  hart-same t = ap (λ (harts : List Hart). slice_get harts t) r.harts

  deadlock-same : (lines : List ℕ) → IsDeadlock lines a → IsDeadlock lines b
  deadlock-same lines h = record {
    each = λ t less. sym (stuck-same lines t) ∙ h.each t (rw (count-tasks a.board b.board r) less);
    one = (h.one.0, sym (waiting-same h.one.0) ∙ h.one.1);
    wires = λ c less. sym (quiet-same c) ∙ h.wires c (rw (ap (λ (ps : List Processor). length ps) r.processors) less);
    pins = sym pins-same ∙ h.pins;
  }

  at-call-same : (t pc : ℕ) → IsAtCall t pc a → IsAtCall t pc b
  at-call-same t pc h = (rw (← hart-same t) h.0, rw (← r.memory) h.1)

  caller-same : (t : ℕ) (event : Event) → IsCaller t a event → IsCaller t b event
  caller-same t event h = (h.0, h.1, sym (current-same h.0) ∙ h.2)

  live-of-same : (o : Option ℕ) → live_of o a.board.parts.tasks ≡ live_of o b.board.parts.tasks
  live-of-same None = refl
  live-of-same (Some t) = rw (ended-same t) refl

  live-owner-same : (m : ℕ) → live_owner m a ≡ live_owner m b
  live-owner-same m = live-of-same (owner a.board.parts.mutexes m) ∙ ap (λ (mutexes : List Mutex). live_of (owner mutexes m) b.board.parts.tasks) r.mutexes

  left-same : (t m : ℕ) → is_left t m a ≡ is_left t m b
  left-same t m = rw (ended-same t, r.mutexes) refl

  weak-same : (t : ℕ) → is_weak_task (slice_get a.board.parts.tasks t) ≡ is_weak_task (slice_get b.board.parts.tasks t)
  weak-same t = read-task a.board b.board r is_weak_task t (λ x. refl)

  out-same : (t : ℕ) → is_out_of_band (slice_get a.board.parts.tasks t) ≡ is_out_of_band (slice_get b.board.parts.tasks t)
  out-same t = read-task a.board b.board r is_out_of_band t (λ x. refl)

  stay-same : (t : ℕ) → is_to_stay t a ≡ is_to_stay t b
  stay-same t = rw (out-same t, weak-same t, hart-same t, r.memory) refl

  in-band-same : (t : ℕ) → is_in_band_task (slice_get a.board.parts.tasks t) ≡ is_in_band_task (slice_get b.board.parts.tasks t)
  in-band-same t = read-task a.board b.board r is_in_band_task t (λ x. refl)

  awaits-same : (t : ℕ) → awaits_timer (slice_get a.board.parts.tasks t) ≡ awaits_timer (slice_get b.board.parts.tasks t)
  awaits-same t = read-task a.board b.board r awaits_timer t (λ x. refl)

  ready-same : (t : ℕ) → is_ready_task (slice_get a.board.parts.tasks t) ≡ is_ready_task (slice_get b.board.parts.tasks t)
  ready-same t = read-task a.board b.board r is_ready_task t (λ x. refl)

  late-same : (t : ℕ) → is_late t a ≡ is_late t b
  late-same t = rw (ready-same t, hart-same t) refl

-- ---- what it asks of the states on both sides of an event
module _ (a b a' b' : State) (r : ReadsSame a.board a'.board) (s : ReadsSame b.board b'.board) where
  notice-same : (t : ℕ) (kind : NoticeKind) → IsNoticed t kind a b → IsNoticed t kind a' b'
  notice-same t kind h = (rw (← r.total, ← s.total) h.0, read-notice t kind b.board.parts.notices.kept b'.board.parts.notices.kept s.notices h.1)

  refused-same : (t : ℕ) (e : Errno) → IsRefused t e a b → IsRefused t e a' b'
  refused-same t e h = (h.0, at-call-same a a' r t h.0 h.1, rw (← hart-same b b' s t) h.2)

  abandoned-same : (t m : ℕ) → IsAbandoned t m a b → IsAbandoned t m a' b'
  abandoned-same t m h = (sym (live-owner-same a a' r m) ∙ h.0, sym (left-same b b' s t m) ∙ h.1)

  demoted-same : (t : ℕ) (event : Event) → IsDemoted t a event b → IsDemoted t a' event b'
  demoted-same t event h = (caller-same a a' r t event h.0, sym (stay-same a a' r t) ∙ h.1, sym (in-band-same b b' s t) ∙ h.2)

  woken-same : (t : ℕ) → IsWokenLate t a b → IsWokenLate t a' b'
  woken-same t h = (sym (awaits-same a a' r t) ∙ h.0, sym (late-same b b' s t) ∙ h.1)

  answered-same : (t : ℕ) (event : Event) → IsAnsweredLate t a event b → IsAnsweredLate t a' event b'
  answered-same t event h = (caller-same a a' r t event h.0, h.1, at-call-same a a' r t h.1 h.2, rw (← hart-same a a' r t, ← hart-same b b' s t) h.3)

  pub fails-same : (wanted : Wanted) (failure : Failure) (event : Event) (answer : Answer) → is_wanted wanted failure ≡ true → Fails wanted.lines failure a event answer b → Fails wanted.lines failure a' event answer b'
  fails-same wanted (failures.Ebreak c) event answer w h = (h.0, sym (stopped-same b b' s c) ∙ h.1)
  fails-same wanted (failures.Fault t) event answer w h = (h.0, h.1, sym (faulted-same b b' s t) ∙ h.2)
  fails-same wanted failures.Deadlock event answer w h = deadlock-same b b' s wanted.lines h
  fails-same wanted (failures.Notice t kind) event answer w h = notice-same t kind h
  fails-same wanted (failures.Refused t e) event answer w h = (caller-same a a' r t event h.0, refused-same t e h.1)
  fails-same wanted (failures.Abandoned t m) event answer w h = (h.0, abandoned-same t m h.1)
  fails-same wanted (failures.Demoted t) event answer w h = demoted-same t event h
  fails-same wanted (failures.Overrun t) event answer w h = (h.0, elim h.1 [ inl woken ↦ inl (woken-same t woken) | inr late ↦ inr (answered-same t event late) ])
  fails-same wanted (failures.Lost c l) event answer w h = cc
  fails-same wanted (failures.Held m) event answer w h = cc
  fails-same wanted (failures.KeptBack t) event answer w h = cc
  fails-same wanted (failures.Stuck t) event answer w h = cc

pub failures_are_alike : FailuresAreAlike
failures_are_alike wanted before after before' after' event answer h g f =
    (f.0, f.1, fails-same before after before' after' (reads-same before.board before'.board h) (reads-same after.board after'.board g) wanted f.0 event answer f.1 f.2)
