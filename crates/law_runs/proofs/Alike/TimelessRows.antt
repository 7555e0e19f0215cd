-- A row looks at no clock where no time is named and no call reads it.
use Rattle.std.proofs.Common.{◌≡◌, ℕ, suc, List, [], ◌∷◌, map, Bool, true, false, not, ◌&&◌, Option, Some, None, refl, ap, sym, ◌∙◌}
use Rattle.std.specs.Prelude.{slice_get, option_map}
use Rattle.evm_dev.specs.Attached.{Attached}
use Rattle.evm_dev.specs.Rows.{ticked}
use Rattle.evm_exec.specs.declared.hart.Hart.{Hart}
use Rattle.evm_lines.specs.Lines.{least_line}
use Rattle.evm_model.proofs.Lists.{change-here}
use Rattle.evm_model.specs.Actions.{receive_line}
use Rattle.evm_model.specs.Commands.{tick, set_bits, on_number, on_current, is_set, set_breakpoint, unset_breakpoint}
use Rattle.evm_model.specs.Current.{current, current_of}
use Rattle.evm_model.specs.Devices.{line_if, raise_line, raise_by_ticks, tick_device, tick_devices}
use Rattle.evm_model.specs.Harts.{set_register, set_pc}
use Rattle.evm_model.specs.Instructions.{stop}
use Rattle.evm_model.specs.Memory.{poke}
use Rattle.evm_model.specs.Pipes.{Pipe, raise}
use Rattle.evm_model.specs.Rows.{run, step_hart, step_current, step_wire, step_pipe, step_processor, step, single_step, row}
use Rattle.evm_model.specs.Settle.{settle_and_nudge}
use Rattle.evm_model.specs.State.{Board, Parts, on_pipe, on_processor, on_parts, on_memory}
use Rattle.evm_model.specs.declared.event.Answer.{Answer}
use Rattle.evm_model.specs.declared.event.Answer.TheVariants.{Done}
use Rattle.evm_model.specs.declared.event.Event.TheVariants.{Step, Tick, Raise, Bell, Stop, Go, StepI, SetReg, SetPc, Poke, Break as Set_break, Unbreak}
use Rattle.evm_model.specs.declared.processor.Processor.{Processor}
use Rattle.law_runs.specs.Timeless.{timeless, timeless_board, HasNoTimes, makes_timed_call, hart_at, is_at_timed_call, TimelessRows}
use Rattle.law_runs.proofs.Alike.Timeless.{Clockless, at_once, onward, timeless_twice}
use Rattle.law_runs.proofs.Alike.TimelessInstructions.{ClocklessBoard, ClocklessAnswered, board_at_once, boards_by, board_onward, answered_if, clockless_line, board_execute}
use Rattle.law_runs.proofs.Alike.TimelessSettling.{clockless_settle_and_nudge}

-- ---- a step
board_settle : (b : Board) → HasNoTimes b.parts → (was : Option ℕ) (c : ℕ) → ClocklessBoard (on_parts (settle_and_nudge was c) b) (on_parts (settle_and_nudge was c) (timeless_board b))
board_settle b h was c = boards_by b (settle_and_nudge was c) (clockless_settle_and_nudge b.parts h was c)

board_receive : (b : Board) → HasNoTimes b.parts → (c l : ℕ) → ClocklessBoard (on_parts (receive_line c l) b) (on_parts (receive_line c l) (timeless_board b))
unfolding receive_line
board_receive b h c l = board_at_once h

module _ (b : Board) (h : HasNoTimes b.parts) where
  answered_run : (hart : Hart) (c t : ℕ) → slice_get b.parts.harts t ≡ Some hart → makes_timed_call (Some hart) b.memory ≡ false → ClocklessAnswered (run hart c t b) (run hart c t (timeless_board b))
  answered_run hart c t there e =
      (board_onward (on_parts (settle_and_nudge (Some t) c)) (board_execute (on_parts (on_processor c (λ p. record p { skip = false })) b) h c t hart there e) (λ a k. board_settle a k (Some t) c), refl)

  answered_hart : (o : Option Hart) (p : Processor) (c t : ℕ) → slice_get b.parts.harts t ≡ o → makes_timed_call o b.memory ≡ false → ClocklessAnswered (step_hart o p c t b) (step_hart o p c t (timeless_board b))
  unfolding stop
  answered_hart None p c t there e = (board_at_once h, refl)
  answered_hart (Some hart) p c t there e = answered_if (is_set b.breakpoints hart.pc && not p.skip) (board_at_once h, refl) (answered_run hart c t there e)

  answered_current : (o : Option ℕ) (p : Processor) (c : ℕ) → makes_timed_call (hart_at o b.parts.harts) b.memory ≡ false → ClocklessAnswered (step_current o p c b) (step_current o p c (timeless_board b))
  answered_current None p c e = (board_settle b h None c, refl)
  answered_current (Some t) p c e = answered_hart (slice_get b.parts.harts t) p c t refl e

  answered_wire : (o : Option ℕ) (p : Processor) (c : ℕ) → makes_timed_call (hart_at p.current b.parts.harts) b.memory ≡ false → ClocklessAnswered (step_wire o p c b) (step_wire o p c (timeless_board b))
  answered_wire None p c e = answered_current p.current p c e
  answered_wire (Some l) p c e = (board_onward (on_parts (settle_and_nudge p.current c)) (board_receive b h c l) (λ a k. board_settle a k p.current c), refl)

  answered_pipe : (o : Option Pipe) (p : Processor) (c : ℕ) → makes_timed_call (hart_at p.current b.parts.harts) b.memory ≡ false → ClocklessAnswered (step_pipe o p c b) (step_pipe o p c (timeless_board b))
  answered_pipe None p c e = (board_at_once h, refl)
  answered_pipe (Some pipe) p c e = answered_wire (least_line pipe.wire) p c e

  answered_processor : (o : Option Processor) (c : ℕ) → makes_timed_call (hart_at (current_of o) b.parts.harts) b.memory ≡ false → ClocklessAnswered (step_processor o c b) (step_processor o c (timeless_board b))
  answered_processor None c e = (board_at_once h, refl)
  answered_processor (Some p) c e = answered_if p.stopped (board_at_once h, refl) (answered_pipe (slice_get b.parts.pipes c) p c e)

  answered_step : (c : ℕ) → is_at_timed_call c b ≡ false → ClocklessAnswered (step c b) (step c (timeless_board b))
  unfolding step
  answered_step c e = answered_processor (slice_get b.parts.processors c) c e

-- ---- the debugger's commands
current_of-bits : (stopped skip : Bool) (o : Option Processor) → current_of (option_map (λ (p : Processor). record p { stopped = stopped; skip = skip }) o) ≡ current_of o
current_of-bits stopped skip None = refl
current_of-bits stopped skip (Some p) = refl

current-bits : (stopped skip : Bool) (c : ℕ) (p : Parts) → current c (set_bits stopped skip c p) ≡ current c p
unfolding set_bits
current-bits stopped skip c p = ap current_of (change-here (λ (p : Processor). record p { stopped = stopped; skip = skip }) p.processors c) ∙ current_of-bits stopped skip (slice_get p.processors c)

board_bits : (b : Board) → HasNoTimes b.parts → (stopped skip : Bool) (c : ℕ) → ClocklessBoard (on_parts (set_bits stopped skip c) b) (on_parts (set_bits stopped skip c) (timeless_board b))
unfolding set_bits
board_bits b h stopped skip c = board_at_once h

clockless_number : (p : Parts) → HasNoTimes p → (o : Option ℕ) (f : Hart → Hart) → Clockless (on_number o f p) (on_number o f (timeless p))
clockless_number p h None f = at_once h
clockless_number p h (Some t) f = at_once h

board_single_step : (b : Board) → HasNoTimes b.parts → (c : ℕ) → is_at_timed_call c b ≡ false → ClocklessBoard (single_step c b) (single_step c (timeless_board b))
unfolding single_step set_bits
board_single_step b h c e =
    let free : is_at_timed_call c (on_parts (set_bits false true c) b) ≡ false = ap (λ o. makes_timed_call (hart_at o b.parts.harts) b.memory) (current-bits false true c b.parts) ∙ e in
    board_onward (on_parts (set_bits true false c)) (answered_step (on_parts (set_bits false true c) b) h c free).0 (λ a k. board_bits a k true false c)

-- ---- ticks
clockless_ticks : (i : ℕ) (devices : List Attached) {x y : Parts} → Clockless x y → Clockless (raise_by_ticks i devices x) (raise_by_ticks i devices y)
unfolding raise_by_ticks
clockless_ticks i [] s = s
clockless_ticks i (device ∷ devices) s =
    let line : Option ℕ = line_if (ticked device.kind device.words).raise i in clockless_ticks (suc i) devices (onward (raise_line line) s (λ p h. clockless_line p h line))

board_tick_devices : (b : Board) → HasNoTimes b.parts → ClocklessBoard (tick_devices b) (tick_devices (timeless_board b))
unfolding tick_devices
board_tick_devices b h =
    boards_by (record b { memory = record b.memory { devices = map tick_device b.memory.devices } }) (raise_by_ticks 0 b.memory.devices) (clockless_ticks 0 b.memory.devices (at_once h))

timeless_tick : (b : Board) → timeless_board (on_parts tick b) ≡ timeless_board (on_parts tick (timeless_board b))
unfolding tick
timeless_tick b = ap (λ p. record b { parts = record p { pipes = map (raise 0) b.parts.pipes } }) (sym (timeless_twice b.parts))

no_times_tick : (b : Board) → HasNoTimes b.parts → HasNoTimes (on_parts tick b).parts
unfolding tick
no_times_tick b h = h

-- ---- rows
abbrev Timelessly : Board × Answer → Board × Answer → Type 0
Timelessly x y = (timeless_board x.0 ≡ timeless_board y.0) × (x.1 ≡ y.1) × HasNoTimes x.0.parts

by_answered : {x y : Board × Answer} → ClocklessAnswered x y → Timelessly x y
by_answered {x = x} s = (sym (ap timeless_board s.0.same ∙ ap (λ p. record x.0 { parts = p }) (timeless_twice x.0.parts)), sym s.1, s.0.none)

by_board : (f : Board → Board) (b : Board) → ClocklessBoard (f b) (f (timeless_board b)) → Timelessly (f b, Done) (f (timeless_board b), Done)
by_board f b s = by_answered {x = (f b, Done)} {y = (f (timeless_board b), Done)} (s, refl)

pub timeless_rows : TimelessRows
unfolding row stop set_bits set_breakpoint unset_breakpoint
timeless_rows (Step c) b h e = by_answered (answered_step b h c e)
timeless_rows Tick b h e =
    let ticked = board_tick_devices b h in
    (timeless_tick (tick_devices b) ∙ ap (λ x. timeless_board (on_parts tick x)) (sym ticked.same), refl, no_times_tick (tick_devices b) ticked.none)
timeless_rows (Raise c l) b h e = by_board (on_parts (on_pipe c (raise l))) b (board_at_once h)
timeless_rows (Bell c l) b h e = by_board (on_parts (on_pipe c (raise l))) b (board_at_once h)
timeless_rows (Stop c) b h e = by_board (on_parts (stop c)) b (board_at_once h)
timeless_rows (Go c) b h e = by_board (on_parts (set_bits false true c)) b (board_at_once h)
timeless_rows (StepI c) b h e = by_board (single_step c) b (board_single_step b h c e)
timeless_rows (SetReg c r value) b h e = by_board (on_parts (on_current c (set_register r value))) b (boards_by b (on_current c (set_register r value)) (clockless_number b.parts h (current c b.parts) (set_register r value)))
timeless_rows (SetPc c pc) b h e = by_board (on_parts (on_current c (set_pc pc))) b (boards_by b (on_current c (set_pc pc)) (clockless_number b.parts h (current c b.parts) (set_pc pc)))
timeless_rows (Poke address bytes) b h e = by_board (on_memory (poke address bytes.items)) b (board_at_once h)
timeless_rows (Set_break address) b h e = by_board (set_breakpoint address) b (board_at_once h)
timeless_rows (Unbreak address) b h e = by_board (unset_breakpoint address) b (board_at_once h)
