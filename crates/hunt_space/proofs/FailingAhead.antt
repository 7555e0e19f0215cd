-- Where a machine fails, so does one whose harts are ahead, or a line demotes a task of it.
use Rattle.std.proofs.Common.{◌≡◌, ℕ, zero, suc, true, false, not, ◌&&◌, Option, Some, None, List, refl, sym, subst, ◌∙◌, inl, inr}
use Rattle.std.specs.Prelude.{if◌then◌else◌, slice_get}
use Rattle.evm_exec.specs.declared.hart.Hart.{Hart}
use Rattle.evm_model.specs.Current.{current}
use Rattle.evm_model.specs.Event.{Event}
use Rattle.evm_model.specs.State.{State}
use Rattle.evm_model.specs.declared.errno.Errno.{Errno}
use Rattle.evm_model.specs.declared.event.Answer.{Answer}
use Rattle.hunt_failures.specs.Failures.{FailsAsWanted, IsAnsweredLate, IsAtCall, IsDeadlock, IsDemoted, IsOverrun, IsRefused, IsWokenLate, awaits_timer, call_in, goes_in_band, is_answered, is_answered_late, is_at_ecall, is_at_pc, is_out_of_band, is_to_stay, is_weak_task, leaves, step_of, tells_many}
use Rattle.hunt_failures.specs.Failures.{is_ready_task as is_task_ready}
use Rattle.hunt_failures.specs.declared.failure.Failure.TheVariants as failures
use Rattle.hunt_failures.specs.declared.wanted.Wanted.{Wanted}
use Rattle.law_runs.proofs.Alike.AheadReading.{hart-same}
use Rattle.law_runs.specs.Ahead.{TasksAhead, actor}
use Rattle.hunt_space.proofs.Harmless.{both, one-ready, unready}
use Rattle.hunt_space.proofs.Harts.{hart_board, with_harts}
use Rattle.hunt_space.proofs.Private.{actor-runs, called-still, private-below}
use Rattle.hunt_space.specs.Demoting.{FailsOrDemotes}

abbrev pub IsStill : (ℕ → ℕ) → State → Event → Type 0
IsStill rows s event = (c t : ℕ) → step_of event ≡ Some c → actor c s.board ≡ Some t → rows t ≡ 0

module _ (low high : ℕ) (rows : ℕ → ℕ) (s after : State) (harts harts' : List Hart) (ahead : TasksAhead low high rows s.board (hart_board harts s.board)) (ahead' : TasksAhead low high rows after.board (hart_board harts' after.board))
    (event : Event) (still : IsStill rows s event) where
  before-same : (t : ℕ) → rows t ≡ 0 → slice_get s.board.parts.harts t ≡ slice_get harts t
  before-same t z = hart-same ahead.parts t z

  after-same : (t : ℕ) → rows t ≡ 0 → slice_get after.board.parts.harts t ≡ slice_get harts' t
  after-same t z = hart-same ahead'.parts t z

  -- a task at a call isn't ahead
  at-call : (t pc : ℕ) → IsAtCall t pc s → rows t ≡ 0
  at-call t pc at = called-still low high rows s (hart_board harts s.board) t pc (rows t) ahead at refl

  call-harts : (t pc : ℕ) → IsAtCall t pc s → IsAtCall t pc (with_harts harts s)
  call-harts t pc at = (subst (λ (o : Option Hart). is_at_pc pc o ≡ true) (before-same t (at-call t pc at)) at.0, at.1)

  refused-harts : (t : ℕ) (e : Errno) → IsRefused t e s after → IsRefused t e (with_harts harts s) (with_harts harts' after)
  refused-harts t e h = (h.0, call-harts t h.0 h.1, subst (λ (o : Option Hart). is_answered h.0 e o ≡ true) (after-same t (at-call t h.0 h.1)) h.2)

  answered-harts : (t : ℕ) → IsAnsweredLate t s event after → IsAnsweredLate t (with_harts harts s) event (with_harts harts' after)
  answered-harts t h =
      let z = at-call t h.1 h.2 in
      let first = subst (λ (o : Option Hart). is_answered_late h.1 (call_in o) (slice_get after.board.parts.harts t) ≡ true) (before-same t z) h.3 in
      (h.0, h.1, call-harts t h.1 h.2, subst (λ (o : Option Hart). is_answered_late h.1 (call_in (slice_get harts t)) o ≡ true) (after-same t z) first)

  -- a task that waits isn't ahead
  waits-still : (t n : ℕ) → awaits_timer (slice_get s.board.parts.tasks t) ≡ true → rows t ≡ n → n ≡ 0
  waits-still t zero h e = refl
  waits-still t (suc n) h e =
      let yes = sym (one-ready (slice_get s.board.parts.tasks t)) ∙ ahead.parts.ready t n e in
      let no : true ≡ false = sym yes ∙ unready (slice_get s.board.parts.tasks t) h in cc

  woken-harts : (t : ℕ) → IsWokenLate t s after → IsWokenLate t (with_harts harts s) (with_harts harts' after)
  woken-harts t h =
      (h.0, subst (λ (o : Option Hart). (is_task_ready (slice_get after.board.parts.tasks t) && tells_many o) ≡ true) (after-same t (waits-still t (rows t) h.0 refl)) h.1)

  overrun-harts : (t : ℕ) → IsOverrun t s event after → IsOverrun t (with_harts harts s) event (with_harts harts' after)
  overrun-harts t (inl woken) = inl (woken-harts t woken)
  overrun-harts t (inr late) = inr (answered-harts t late)

  deadlock-harts : (lines : List ℕ) → IsDeadlock lines after → IsDeadlock lines (with_harts harts' after)
  deadlock-harts lines h = record { each = h.each; one = h.one; wires = h.wires; pins = h.pins }

  -- ---- a task that is demoted
  stay-harts : (t : ℕ) → rows t ≡ 0 → is_to_stay t s ≡ true → is_to_stay t (with_harts harts s) ≡ true
  stay-harts t z h =
      subst
      (λ (o : Option Hart). (is_out_of_band (slice_get s.board.parts.tasks t) && not (is_at_ecall o s.board.memory.ram && (if is_weak_task (slice_get s.board.parts.tasks t) then true else goes_in_band (call_in o)))) ≡ true)
      (before-same t z) h

  none-acts : (c t n : ℕ) (o : Option ℕ) → step_of event ≡ Some c → current c s.board.parts ≡ Some t → rows t ≡ suc n → actor c s.board ≡ o → o ≡ None
  none-acts c t n None e runs more acts = refl
  none-acts c t n (Some u) e runs more acts =
      let one : Some u ≡ Some t = sym (actor-runs c u s.board acts) ∙ runs in
      let same : u ≡ t = cc in
      let zero' : rows t ≡ 0 = subst (λ (v : ℕ). rows v ≡ 0) same (still c u e acts) in
      cc

  demoted-harts : (wanted : Wanted) (answer : Answer) (t n : ℕ) → wanted.demotion ≡ true → rows t ≡ n → IsDemoted t s event after → FailsOrDemotes high wanted (with_harts harts s) event answer (with_harts harts' after)
  demoted-harts wanted answer t zero sought z h = inl (failures.Demoted t, sought, (h.0, stay-harts t z h.1, h.2))
  demoted-harts wanted answer t (suc n) sought more h = inr (
    sought,
    private-below low high rows s.board (hart_board harts s.board) t n ahead more,
    t,
    record {
      cpu = h.0.0;
      steps = h.0.1;
      runs = h.0.2;
      does_none = none-acts h.0.0 t n (actor h.0.0 s.board) h.0.1 h.0.2 more refl;
      was_out_of_band = (both (is_out_of_band (slice_get s.board.parts.tasks t)) (not (leaves t s)) h.1).0;
      is_in_band = h.2;
    },
  )

  pub fails-harts : (wanted : Wanted) (answer : Answer) → FailsAsWanted wanted s event answer after → FailsOrDemotes high wanted (with_harts harts s) event answer (with_harts harts' after)
  fails-harts wanted answer (failures.Ebreak d, sought, fails) = inl (failures.Ebreak d, sought, fails)
  fails-harts wanted answer (failures.Fault t, sought, fails) = inl (failures.Fault t, sought, fails)
  fails-harts wanted answer (failures.Deadlock, sought, fails) = inl (failures.Deadlock, sought, deadlock-harts wanted.lines fails)
  fails-harts wanted answer (failures.Notice t kind, sought, fails) = inl (failures.Notice t kind, sought, fails)
  fails-harts wanted answer (failures.Refused t e, sought, fails) = inl (failures.Refused t e, sought, (fails.0, refused-harts t e fails.1))
  fails-harts wanted answer (failures.Abandoned t m, sought, fails) = inl (failures.Abandoned t m, sought, fails)
  fails-harts wanted answer (failures.Demoted t, sought, fails) = demoted-harts wanted answer t (rows t) sought refl fails
  fails-harts wanted answer (failures.Overrun t, sought, fails) = inl (failures.Overrun t, sought, (fails.0, overrun-harts t fails.1))
  fails-harts wanted answer (failures.Lost d line, sought, fails) = cc
  fails-harts wanted answer (failures.Held m, sought, fails) = cc
  fails-harts wanted answer (failures.KeptBack t, sought, fails) = cc
  fails-harts wanted answer (failures.Stuck t, sought, fails) = cc
