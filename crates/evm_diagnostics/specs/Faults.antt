-- Faults of scripts, journals and sources: the line, and the processor that it names.
use Rattle.std.specs.Prelude.{ℕ, Option, Some, None}
use Rattle.evm_model.specs.declared.refusal.Refusal.{Refusal}
use Rattle.evm_model.specs.Event.{Event}
use Rattle.evm_model.specs.declared.event.Event.TheVariants as events
use Rattle.evm_debug.specs.declared.line.View.{View}
use Rattle.evm_debug.specs.declared.line.View.TheVariants as views
use Rattle.evm_diagnostics.specs.declared.fault.InputFault.{InputFault}
use Rattle.evm_diagnostics.specs.declared.fault.InputFault.TheVariants.{BadLine, Refused, NoProgram, NoJournal}

-- the line of the input on which the fault is
abbrev pub line_at_fault : InputFault → ℕ
line_at_fault (BadLine n fault) = n
line_at_fault (Refused n cpu refusal) = n
line_at_fault (NoProgram fault) = fault.line
line_at_fault (NoJournal fault) = fault.line

-- ---- processors that a line names

abbrev pub event_cpu : Event → Option ℕ
event_cpu (events.Step c) = Some c
event_cpu events.Tick = None
event_cpu (events.Raise c l) = Some c
event_cpu (events.Bell c l) = Some c
event_cpu (events.Stop c) = Some c
event_cpu (events.Go c) = Some c
event_cpu (events.StepI c) = Some c
event_cpu (events.SetReg c r v) = Some c
event_cpu (events.SetPc c v) = Some c
event_cpu (events.Poke a block) = None
event_cpu (events.Break a) = None
event_cpu (events.Unbreak a) = None

abbrev pub view_cpu : View → Option ℕ
view_cpu (views.Regs c) = Some c
view_cpu (views.Mem a n) = None
view_cpu (views.Stages c) = Some c
view_cpu views.Tasks = None
view_cpu views.Owners = None
view_cpu (views.Rank t) = None
view_cpu (views.Counts c l) = Some c
view_cpu views.Journal = None
view_cpu views.Console = None
view_cpu views.Notices = None
view_cpu (views.Words i) = None

-- an event on line n is refused, or a view
abbrev pub event_refused : ℕ → Event → Refusal → InputFault
event_refused n event refusal = Refused n (event_cpu event) refusal

abbrev pub view_refused : ℕ → View → Refusal → InputFault
view_refused n view refusal = Refused n (view_cpu view) refusal
