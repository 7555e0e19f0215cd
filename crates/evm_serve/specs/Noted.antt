-- What the Steps of a line and the calls of tasks leave in the notes.
use Rattle.std.specs.Prelude.{ℕ, ◌+◌, List, Option, Some, None, replicate, slice_get, slice_set}
use Rattle.evm_model.specs.declared.event.Answer.{Answer}
use Rattle.evm_model.specs.declared.event.Answer.TheVariants.{Stopped, Received, Idle, Hit, Ran, Done}
use Rattle.evm_model.specs.declared.limits.TheConstants.{TASK_LIMIT}
use Rattle.evm_serve.specs.declared.notes.Ahead.{Ahead}
use Rattle.evm_serve.specs.declared.notes.LastCall.{LastCall}
use Rattle.evm_serve.specs.Notes.{Noted}

-- no task has made a call
abbrev pub no_notes : Noted
no_notes = record { swallowed = 0; calls = replicate TASK_LIMIT None }

-- a line begins
abbrev pub line_begun : Noted → Noted
line_begun notes = record notes { swallowed = 0 }

abbrev pub last_call : Option (Option LastCall) → Option LastCall
last_call None = None
last_call (Some call) = call

-- the last call of task t is this one
abbrev pub made : ℕ → LastCall → Noted → Noted
made t call notes = record notes { calls = slice_set notes.calls t (Some call) }

-- the answer of a call that has none yet is what a0 holds as its task goes on
abbrev pub answered_call : Option ℕ → Ahead → LastCall → Noted → Noted
answered_call None ahead call notes = made ahead.task (record call { answer = Some ahead.a0 }) notes
answered_call (Some answer) ahead call notes = notes

abbrev pub answered_last : Option LastCall → Ahead → Noted → Noted
answered_last None ahead notes = notes
answered_last (Some call) ahead notes = answered_call call.answer ahead call notes

abbrev pub with_answer : Ahead → Noted → Noted
with_answer ahead notes = answered_last (last_call (slice_get notes.calls ahead.task)) ahead notes

-- a task makes a call, if its instruction is one
abbrev pub called : Option ℕ → ℕ → Noted → Noted
called None t notes = notes
called (Some number) t notes = made t (record { number = number; answer = None }) notes

-- a task does its next instruction
abbrev pub noted_by : Ahead → Noted → Noted
noted_by ahead notes = called ahead.call ahead.task (with_answer ahead notes)

abbrev pub noted_ahead : Option Ahead → Noted → Noted
noted_ahead None notes = notes
noted_ahead (Some ahead) notes = noted_by ahead notes

-- a Step of a processor, of which this instruction was next, has answered so
abbrev pub noted_step : Answer → Option Ahead → Noted → Noted
noted_step Stopped ahead notes = record notes { swallowed = notes.swallowed + 1 }
noted_step (Ran t) ahead notes = noted_ahead ahead notes
noted_step (Received line) ahead notes = notes
noted_step Idle ahead notes = notes
noted_step Hit ahead notes = notes
noted_step Done ahead notes = notes
