-- A row of another task, or of none, leaves each task as many rows ahead as it was.
use Rattle.std.proofs.Common.{◌≡◌, ℕ, Bool, true, false, not, ◌&&◌, Option, Some, None, map, refl, ap, ◌∙◌, subst}
use Rattle.std.specs.Prelude.{slice_get, if◌then◌else◌}
use Rattle.evm_lines.specs.Lines.{least_line}
use Rattle.evm_exec.specs.declared.hart.Hart.{Hart}
use Rattle.evm_model.specs.Actions.{receive_line}
use Rattle.evm_model.specs.Commands.{tick, is_set}
use Rattle.evm_model.specs.Devices.{tick_device, raise_by_ticks, tick_devices}
use Rattle.evm_model.specs.Instructions.{stop}
use Rattle.evm_model.specs.Pipes.{Pipe, raise}
use Rattle.evm_model.specs.Rows.{run, step_hart, step_current, step_wire, step_pipe, step_processor, step, row}
use Rattle.evm_model.specs.Settle.{settle_and_nudge}
use Rattle.evm_model.specs.State.{Board, Memory, Parts, on_parts, on_pipe, on_processor}
use Rattle.evm_model.specs.declared.event.Event.TheVariants.{Step, Tick, Raise}
use Rattle.evm_model.specs.declared.event.Answer.TheVariants.{Stopped}
use Rattle.evm_model.specs.declared.processor.Processor.{Processor}
use Rattle.law_runs.specs.Ahead.{HeadStart, Ahead, BoardsAhead, actor_now, actor_on, actor_among, actor}
use Rattle.law_runs.proofs.Alike.AheadBoards.{boards_by, AnsweredAhead, answered_if}
use Rattle.law_runs.proofs.Alike.AheadChanging.{ahead_by, ahead_processor}
use Rattle.law_runs.proofs.Alike.AheadDevices.{ahead_raise, ahead_receive, ahead_ticks}
use Rattle.law_runs.proofs.Alike.AheadInstructions.{ahead_stop, boards_execute}
use Rattle.law_runs.proofs.Alike.AheadReading.{at_pipe, hart-same, processors-same}
use Rattle.law_runs.proofs.Alike.AheadSettling.{ahead_settle_and_nudge}
use Rattle.law_runs.proofs.Alike.AheadWaiters.{IsStill}

boards_settle : {lead : HeadStart} {a b : Board} → BoardsAhead lead a b → (was : Option ℕ) (c : ℕ) → BoardsAhead lead (on_parts (settle_and_nudge was c) a) (on_parts (settle_and_nudge was c) b)
boards_settle s was c = boards_by s (settle_and_nudge was c) (ahead_settle_and_nudge s.parts was c)

-- ---- a Step
module _ {lead : HeadStart} {a b : Board} (s : BoardsAhead lead a b) where
  ahead_run : (hart : Hart) (c t : ℕ) → lead.rows t ≡ 0 → AnsweredAhead lead (run hart c t a) (run hart c t b)
  ahead_run hart c t z =
      let f : Processor → Processor = λ p. record p { skip = false } in
      (boards_settle (boards_execute (boards_by s (on_processor c f) (ahead_processor s.parts c f)) c t z hart) (Some t) c, refl)

  ahead_step_hart : (o : Option Hart) (p : Processor) (c t : ℕ) → lead.rows t ≡ 0 → AnsweredAhead lead (step_hart o p c t a) (step_hart o p c t b)
  ahead_step_hart None p c t z = (s, refl)
  ahead_step_hart (Some hart) p c t z =
      answered_if (ap (λ addresses. is_set addresses hart.pc && not p.skip) s.breakpoints) (boards_by s (stop c) (ahead_stop s.parts c), refl) (ahead_run hart c t z)

  ahead_step_current : (o : Option ℕ) (p : Processor) (c : ℕ) → IsStill lead o → AnsweredAhead lead (step_current o p c a) (step_current o p c b)
  ahead_step_current None p c h = (boards_settle s None c, refl)
  ahead_step_current (Some t) p c h = rw (hart-same s.parts t (h t refl)) (ahead_step_hart (slice_get b.parts.harts t) p c t (h t refl))

  ahead_step_wire : (o : Option ℕ) (p : Processor) (c : ℕ) → IsStill lead (actor_now o p) → AnsweredAhead lead (step_wire o p c a) (step_wire o p c b)
  ahead_step_wire None p c h = ahead_step_current p.current p c h
  ahead_step_wire (Some l) p c h = (boards_settle (boards_by s (receive_line c l) (ahead_receive s.parts c l)) p.current c, refl)

  ahead_step_pipe : (o : Option Pipe) (p : Processor) (c : ℕ) → IsStill lead (actor_on o p) → AnsweredAhead lead (step_pipe o p c a) (step_pipe o p c b)
  ahead_step_pipe None p c h = (s, refl)
  ahead_step_pipe (Some pipe) p c h = ahead_step_wire (least_line pipe.wire) p c h

  ahead_pipe_there : (p : Processor) (c : ℕ) → IsStill lead (actor_on (slice_get b.parts.pipes c) p) → AnsweredAhead lead (step_pipe (slice_get a.parts.pipes c) p c a) (step_pipe (slice_get b.parts.pipes c) p c b)
  ahead_pipe_there p c h = rw (at_pipe s.parts (λ o. step_pipe o p c a) c) (ahead_step_pipe (slice_get b.parts.pipes c) p c h)

  ahead_step_stopped : (stopped : Bool) (p : Processor) (c : ℕ) → IsStill lead (if stopped then None else actor_on (slice_get b.parts.pipes c) p)
      → AnsweredAhead lead (if stopped then (a, Stopped) else step_pipe (slice_get a.parts.pipes c) p c a) (if stopped then (b, Stopped) else step_pipe (slice_get b.parts.pipes c) p c b)
  ahead_step_stopped true p c h = (s, refl)
  ahead_step_stopped false p c h = ahead_pipe_there p c h

  ahead_step_processor : (o : Option Processor) (c : ℕ) → IsStill lead (actor_among o (slice_get b.parts.pipes c)) → AnsweredAhead lead (step_processor o c a) (step_processor o c b)
  ahead_step_processor None c h = (s, refl)
  ahead_step_processor (Some p) c h = ahead_step_stopped p.stopped p c h

  pub actor-same : (c : ℕ) → actor c a ≡ actor c b
  actor-same c = ap (λ (k : Parts). actor_among (slice_get k.processors c) (slice_get k.pipes c)) s.parts.same

  ahead_step : (c : ℕ) → IsStill lead (actor c a) → AnsweredAhead lead (step c a) (step c b)
  unfolding step
  ahead_step c h =
      let still : IsStill lead (actor c b) = λ t e. h t (actor-same c ∙ e) in
      rw (ap (λ processors. slice_get processors c) (processors-same s.parts)) (ahead_step_processor (slice_get b.parts.processors c) c still)

-- ---- a Tick
ahead_tick : {lead : HeadStart} {p q : Parts} → Ahead lead p q → Ahead lead (tick p) (tick q)
unfolding tick
ahead_tick a = ahead_by a tick (λ k. refl) (λ k. refl) (λ k. refl)

ahead_devices : {lead : HeadStart} {a b : Board} → BoardsAhead lead a b → BoardsAhead lead (tick_devices a) (tick_devices b)
unfolding tick_devices
ahead_devices {lead = lead} {a = a} {b = b} s = record {
  memory = ap (λ (m : Memory). record m { devices = map tick_device m.devices }) s.memory;
  breakpoints = s.breakpoints;
  parts = subst (λ (m : Memory). Ahead lead (raise_by_ticks 0 a.memory.devices a.parts) (raise_by_ticks 0 m.devices b.parts)) s.memory (ahead_ticks 0 a.memory.devices s.parts);
}

-- ---- the rows
pub ahead_row-step : {lead : HeadStart} {a b : Board} → BoardsAhead lead a b → (c : ℕ) → IsStill lead (actor c a) → AnsweredAhead lead (row (Step c) a) (row (Step c) b)
unfolding row
ahead_row-step s c h = ahead_step s c h

pub ahead_row-tick : {lead : HeadStart} {a b : Board} → BoardsAhead lead a b → AnsweredAhead lead (row Tick a) (row Tick b)
unfolding row
ahead_row-tick s = (boards_by (ahead_devices s) tick (ahead_tick (ahead_devices s).parts), refl)

pub ahead_row-raise : {lead : HeadStart} {a b : Board} → BoardsAhead lead a b → (c l : ℕ) → AnsweredAhead lead (row (Raise c l) a) (row (Raise c l) b)
unfolding row
ahead_row-raise s c l = (boards_by s (on_pipe c (raise l)) (ahead_raise s.parts c l), refl)
