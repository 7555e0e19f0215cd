-- How a run may end, and what it has written then.
use Rattle.std.specs.Prelude.{◌≡◌, ℕ, List, [], ◌++◌, ◌⊎◌, Option, Result, Ok, Err, ⊤}
use Rattle.evm_streams.specs.declared.sink.Writing.{Writing}
use Rattle.evm_streams.specs.declared.source.ReadStop.{ReadStop}
use Rattle.evm_streams.specs.declared.source.ReadStop.TheVariants as stops
use Rattle.evm_streams.specs.Writes.{Took, TookPrefix}
use Rattle.evm_model.specs.Devices.{Attached}
use Rattle.evm_model.specs.State.{State}
use Rattle.evm_serve.specs.RunOptions.{HoldsDevices}
use Rattle.evm_serve.specs.Memory.{MemoryRefused}
use Rattle.evm_serve.specs.Script.{Report, memory_text, LineOutcome, Goes, Ends}
use Rattle.evm_serve.specs.FaultLines.{fault_text, no_image_text}
use Rattle.evm_serve.specs.declared.ending.Verdict.{Verdict}
use Rattle.evm_serve.specs.declared.ending.Verdict.TheVariants.{Done, Refused, ImageRefused}
use Rattle.evm_serve.specs.declared.ending.Ending.{Ending}
use Rattle.evm_serve.specs.declared.ending.Ending.TheVariants.{Complete, NoMemory, ReadFailed, WriteFailed}
use Rattle.evm_serve.specs.declared.ending.Reply.{Reply}
use Rattle.evm_serve.specs.declared.ending.Reply.TheVariants as replies

-- the reply of the code to a line is the outcome of the line, with its text and its machine
abbrev pub Replies : Reply → List ℕ → Option State → LineOutcome → Type 0
Replies (replies.Goes noted) text machine outcome = outcome ≡ Goes text machine
Replies (replies.Ends fault) text machine outcome = outcome ≡ Ends fault

-- where the run goes on, the devices are there until a machine is booted
abbrev pub StillHoldsDevices : Reply → Option State → Option (List Attached) → List Attached → Type 0
StillHoldsDevices (replies.Goes noted) machine held devices = HoldsDevices machine held devices
StillHoldsDevices (replies.Ends fault) machine held devices = ⊤

-- the status of a run whose report was written to its end
abbrev pub verdict_status : Verdict → ℕ
verdict_status Done = 0
verdict_status (Refused fault) = 1
verdict_status (ImageRefused fault) = 3

-- the status that a run ends with
abbrev pub status_at : Ending → ℕ
status_at (Complete verdict) = verdict_status verdict
status_at NoMemory = 1
status_at (ReadFailed fault) = 4
status_at (WriteFailed fault) = 4

abbrev pub IsPrefix : List ℕ → List ℕ → Type 0
IsPrefix prefix text = (rest : List ℕ) × (text ≡ prefix ++ rest)

-- The fault of a verdict is the one with which the report ends.
abbrev pub EndsIn : Verdict → List ℕ → Type 0
EndsIn Done text = ⊤
EndsIn (Refused fault) text = (front : List ℕ) × (text ≡ front ++ fault_text fault)
EndsIn (ImageRefused fault) text = (front : List ℕ) × (text ≡ front ++ no_image_text fault)

module _ {W : Type 0} (takes : W → Writing → List ℕ → W → Type 0) where
  -- All of a report was written, with its verdict, whose fault is the one that it ends with; or a write failed, after a prefix of it.
  abbrev pub WritesAll : Report → W → W → Ending → Type 0
  WritesAll all w w' (Complete verdict) = Took takes w all.text w' × (verdict ≡ all.verdict) × EndsIn verdict all.text
  WritesAll all w w' NoMemory = ⊥
  WritesAll all w w' (ReadFailed fault) = ⊥
  WritesAll all w w' (WriteFailed fault) = TookPrefix takes w all.text w'

  -- A prefix and then the line `memory` were written; or a write failed, after a prefix of these.
  abbrev pub WritesMemory : List ℕ → W → W → Ending → Type 0
  WritesMemory prefix w w' (Complete verdict) = ⊥
  WritesMemory prefix w w' NoMemory = Took takes w (prefix ++ memory_text) w'
  WritesMemory prefix w w' (ReadFailed fault) = ⊥
  WritesMemory prefix w w' (WriteFailed fault) = TookPrefix takes w (prefix ++ memory_text) w'

  -- The same, once memory was refused to the run.
  abbrev pub EndsInMemory : List ℕ → W → W → Ending → Type 0
  EndsInMemory prefix w w' ending = MemoryRefused × WritesMemory prefix w w' ending

  -- A run writes all of its report; or, once memory was refused to it, a prefix of it and then the line `memory`.
  abbrev pub Finishes : Report → W → W → Ending → Type 0
  Finishes all w w' ending = WritesAll all w w' ending ⊎ ((prefix : List ℕ) × IsPrefix prefix all.text × EndsInMemory prefix w w' ending)

  -- A run that could not read its input ends with the fault, and the writer has no call; where an allocation failed, with the line `memory`.
  abbrev pub Unread : ReadStop → W → W → Ending → Type 0
  Unread stops.NoMemory w w' ending = WritesMemory [] w w' ending
  Unread (stops.Fault fault) w w' ending = (w' ≡ w) × (ending ≡ ReadFailed fault)

  -- A run that read its input writes the report of it.
  abbrev pub Serves : (List ℕ → Report) → Result (List ℕ) ReadStop → W → W → Ending → Type 0
  Serves report (Ok input) w w' ending = Finishes (report input) w w' ending
  Serves report (Err stop) w w' ending = Unread stop w w' ending
