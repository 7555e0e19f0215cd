-- Where a line is on the wire no instruction is done.
use Rattle.std.proofs.Common.{◌≡◌, ℕ, ◌+◌, ◌≤◌, ◌⊎◌, Bool, true, false, not, Option, Some, None, inl, inr, refl, ap, sym, ◌∙◌}
use Rattle.std.specs.Prelude.{slice_get, is_none, if◌then◌else◌}
use Rattle.evm_lines.specs.Lines.{least_line}
use Rattle.evm_model.specs.Pipes.{Pipe}
use Rattle.evm_model.specs.Rows.{step_wire, step_pipe, step_processor, step}
use Rattle.evm_model.specs.State.{Board}
use Rattle.evm_model.specs.declared.event.Answer.{Answer}
use Rattle.evm_model.specs.declared.event.Answer.TheVariants.{Stopped, Ran}
use Rattle.evm_model.specs.declared.processor.Processor.{Processor}
use Rattle.law_runs.specs.Noticing.{GetsAlarm, same_notices, by_task, by_watchdog}
use Rattle.law_runs.proofs.Alarms.{step_notices}

-- whether a line is on the wire
abbrev pub hears : Option Pipe → Bool
hears None = false
hears (Some p) = not (is_none (least_line p.wire))

abbrev is_run : Answer → Bool
is_run (Ran t) = true
is_run _ = false

-- the step rests but for a line that is received
abbrev Rests : Board → Board × Answer → Type 0
Rests b after = (after.0.memory ≡ b.memory) × (is_run after.1 ≡ false)

wire_rests : (o : Option ℕ) (p : Processor) (c : ℕ) (b : Board) → not (is_none o) ≡ true → Rests b (step_wire o p c b)
wire_rests None p c b h = cc
wire_rests (Some l) p c b h = (refl, refl)

pipe_rests : (o : Option Pipe) (p : Processor) (c : ℕ) (b : Board) → hears o ≡ true → Rests b (step_pipe o p c b)
pipe_rests None p c b h = (refl, refl)
pipe_rests (Some pipe) p c b h = wire_rests (least_line pipe.wire) p c b h

stop_rests : (stopped : Bool) (b : Board) (after : Board × Answer) → Rests b after → Rests b (if stopped then (b, Stopped) else after)
stop_rests true b after r = (refl, refl)
stop_rests false b after r = r

processor_rests : (o : Option Processor) (c : ℕ) (b : Board) → hears (slice_get b.parts.pipes c) ≡ true → Rests b (step_processor o c b)
processor_rests None c b h = (refl, refl)
processor_rests (Some p) c b h = stop_rests p.stopped b _ (pipe_rests (slice_get b.parts.pipes c) p c b h)

step_rests : (c : ℕ) (b : Board) → hears (slice_get b.parts.pipes c) ≡ true → Rests b (step c b)
unfolding step
step_rests c b h = processor_rests (slice_get b.parts.processors c) c b h

pub received_rests : (c : ℕ) (b : Board) → hears (slice_get b.parts.pipes c) ≡ true → (step c b).0.parts.notices.total ≤ b.parts.notices.total + 1
    → ((step c b).0.memory ≡ b.memory) × (((step c b).0.parts.notices ≡ b.parts.notices) ⊎ GetsAlarm c b (step c b).0.parts.notices)
received_rests c b h few =
    let r = step_rests c b h in (
      r.0,
      elim (step_notices c b few) [
        | same_notices same ↦ inl same
        | by_watchdog g ↦ inr g
        | by_task g ↦ let no : true ≡ false = sym (ap is_run g.ran) ∙ r.1 in cc
      ],
    )
