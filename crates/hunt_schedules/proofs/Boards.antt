-- What may come, and what has failed, is to be seen on the board alone.
use Rattle.std.proofs.Common.{◌≡◌, ℕ, ◌<◌, ◌⊎◌, List, Option, Some, None, true, false, length, refl, sym, ap, subst, ◌∙◌}
use Rattle.std.specs.Prelude.{if◌then◌else◌, is_some, slice_get}
use Rattle.evm_core.specs.Views.{device_word}
use Rattle.evm_model.specs.Current.{current}
use Rattle.evm_model.specs.Event.{Event}
use Rattle.evm_model.specs.Good.{is_ready}
use Rattle.evm_model.specs.Refusals.{is_stopped}
use Rattle.evm_model.specs.State.{Board, State}
use Rattle.evm_model.specs.declared.event.Answer.{Answer}
use Rattle.evm_model.specs.declared.event.Event.TheVariants.{Step, Tick, Raise, Bell, Stop, Go, StepI, SetReg, SetPc, Poke, Break, Unbreak}
use Rattle.evm_model.specs.declared.task.Task.{Task}
use Rattle.hunt_failures.specs.Failures.{Fails, FailsAsWanted, IsAbandoned, IsCaller, IsDeadlock, IsDemoted, IsNoticed, IsOverrun, IsRefused, faulted_at, is_quiet_pipe, is_wanted, is_stuck_task, is_waiting_task, is_zero}
use Rattle.hunt_failures.specs.Awake.{IsAwake, IsOver, is_done, is_ready_on}
use Rattle.hunt_schedules.specs.Making.{MayMake}
use Rattle.hunt_failures.specs.declared.failure.Failure.{Failure}
use Rattle.hunt_failures.specs.declared.failure.Failure.TheVariants as failures
use Rattle.hunt_failures.specs.declared.wanted.Wanted.{Wanted}
use Rattle.hunt_schedules.specs.Covering.{LookAtBoards}

-- ---- what may come
awake-at : (c : ℕ) (s t : State) → s.board ≡ t.board → IsAwake c s → IsAwake c t
awake-at c s t e h = record {
  there = subst (λ (b : Board). c < length b.parts.processors) e h.there;
  runs = subst (λ (b : Board). is_stopped (slice_get b.parts.processors c) ≡ false) e h.runs;
  work = subst (λ (b : Board). (is_some (current c b.parts) ≡ true) ⊎ ((is_quiet_pipe (slice_get b.parts.pipes c) ≡ false) ⊎ ((u : ℕ) × (is_ready_on c (slice_get b.parts.tasks u) ≡ true)))) e h.work;
}

done-at : (lines : List ℕ) (s t : State) (task : Option Task) → s.board ≡ t.board → is_done lines s task ≡ is_done lines t task
done-at lines s t None e = refl
done-at lines s t (Some task) e =
    ap (λ (b : Board). if is_ready task.state then true else (if is_stuck_task lines b.parts.timers (Some task) then true else is_stopped (slice_get b.parts.processors task.cpu))) e

over-at : (lines : List ℕ) (s t : State) → s.board ≡ t.board → IsOver lines s → IsOver lines t
over-at lines s t e h = record {
  asleep = λ c awake. h.asleep c (awake-at c t s (sym e) awake);
  done = λ u less.
      let within : u < length s.board.parts.tasks = subst (λ (b : Board). u < length b.parts.tasks) (sym e) less in
      let same : is_done lines t (slice_get s.board.parts.tasks u) ≡ true = sym (done-at lines s t (slice_get s.board.parts.tasks u) e) ∙ h.done u within in
      subst (λ (b : Board). is_done lines t (slice_get b.parts.tasks u) ≡ true) e same;
  pins = subst (λ (b : Board). is_zero (device_word 2 2 b.memory.devices) ≡ true) e h.pins;
}

may-at : (lines : List ℕ) (s t : State) (event : Event) → s.board ≡ t.board → MayMake lines s event → MayMake lines t event
may-at lines s t (Step c) e h = awake-at c s t e h
may-at lines s t Tick e h = λ over. h (over-at lines t s (sym e) over)
may-at lines s t (Raise c line) e h = ((λ over. h.0 (over-at lines t s (sym e) over)), subst (λ (b : Board). c < length b.parts.processors) e h.1, h.2)
may-at lines s t (Bell c line) e h = absurd h
may-at lines s t (Stop c) e h = absurd h
may-at lines s t (Go c) e h = absurd h
may-at lines s t (StepI c) e h = absurd h
may-at lines s t (SetReg c r value) e h = absurd h
may-at lines s t (SetPc c pc) e h = absurd h
may-at lines s t (Poke address bytes) e h = absurd h
may-at lines s t (Break address) e h = absurd h
may-at lines s t (Unbreak address) e h = absurd h

-- ---- what has failed
deadlock-at : (lines : List ℕ) (s t : State) → s.board ≡ t.board → IsDeadlock lines s → IsDeadlock lines t
deadlock-at lines s t e h = record {
  each = subst (λ (b : Board). (u : ℕ) → u < length b.parts.tasks → is_stuck_task lines b.parts.timers (slice_get b.parts.tasks u) ≡ true) e h.each;
  one = subst (λ (b : Board). (u : ℕ) × (is_waiting_task (slice_get b.parts.tasks u) ≡ true)) e h.one;
  wires = subst (λ (b : Board). (c : ℕ) → c < length b.parts.processors → is_quiet_pipe (slice_get b.parts.pipes c) ≡ true) e h.wires;
  pins = subst (λ (b : Board). is_zero (device_word 2 2 b.memory.devices) ≡ true) e h.pins;
}

-- a fact about two states that looks at their boards alone
at-boards : (P : Board → Board → Type 0) (a b x y : Board) → a ≡ b → x ≡ y → P a x → P b y
at-boards P a b x y e f h = subst (λ (z : Board). P b z) f (subst (λ (z : Board). P z x) e h)

fails-at : (wanted : Wanted) (failure : Failure) (s t after behind : State) (event : Event) (answer : Answer) → is_wanted wanted failure ≡ true → s.board ≡ t.board → after.board ≡ behind.board
    → Fails wanted.lines failure s event answer after → Fails wanted.lines failure t event answer behind
fails-at wanted (failures.Ebreak c) s t after behind event answer sought e f h = (h.0, subst (λ (b : Board). is_stopped (slice_get b.parts.processors c) ≡ true) f h.1)
fails-at wanted (failures.Fault u) s t after behind event answer sought e f h = (h.0, h.1, subst (λ (b : Board). faulted_at u (record after { board = b }) ≡ true) f h.2)
fails-at wanted failures.Deadlock s t after behind event answer sought e f h = deadlock-at wanted.lines after behind f h
fails-at wanted (failures.Notice u kind) s t after behind event answer sought e f h =
    at-boards (λ (a x : Board). IsNoticed u kind (record s { board = a }) (record after { board = x })) s.board t.board after.board behind.board e f h
fails-at wanted (failures.Refused u error) s t after behind event answer sought e f h = (
  subst (λ (b : Board). IsCaller u (record s { board = b }) event) e h.0,
  at-boards (λ (a x : Board). IsRefused u error (record s { board = a }) (record after { board = x })) s.board t.board after.board behind.board e f h.1,
)
fails-at wanted (failures.Abandoned u m) s t after behind event answer sought e f h =
    (h.0, at-boards (λ (a x : Board). IsAbandoned u m (record s { board = a }) (record after { board = x })) s.board t.board after.board behind.board e f h.1)
fails-at wanted (failures.Demoted u) s t after behind event answer sought e f h =
    at-boards (λ (a x : Board). IsDemoted u (record s { board = a }) event (record after { board = x })) s.board t.board after.board behind.board e f h
fails-at wanted (failures.Overrun u) s t after behind event answer sought e f h =
    (h.0, at-boards (λ (a x : Board). IsOverrun u (record s { board = a }) event (record after { board = x })) s.board t.board after.board behind.board e f h.1)
fails-at wanted (failures.Lost c l) s t after behind event answer sought e f h = cc
fails-at wanted (failures.Held m) s t after behind event answer sought e f h = cc
fails-at wanted (failures.KeptBack u) s t after behind event answer sought e f h = cc
fails-at wanted (failures.Stuck u) s t after behind event answer sought e f h = cc

pub look-at-boards : (wanted : Wanted) → LookAtBoards (MayMake wanted.lines) (FailsAsWanted wanted)
look-at-boards wanted = record {
  may = may-at wanted.lines;
  fails = λ s t after behind event answer e f h. (h.0, h.1, fails-at wanted h.0 s t after behind event answer h.1 e f h.2);
}
