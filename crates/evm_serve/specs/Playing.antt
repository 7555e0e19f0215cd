-- What a run has written on the way to its end.
use Rattle.std.specs.Prelude.{◌≡◌, ℕ, List, [], Result, Ok, Err}
use Rattle.evm_streams.specs.declared.sink.Writing.{Writing}
use Rattle.evm_streams.specs.Writes.{Took, TookPrefix}
use Rattle.evm_serve.specs.Memory.{MemoryRefused}
use Rattle.evm_serve.specs.Script.{Report}
use Rattle.evm_serve.specs.Serving.{IsPrefix, EndsIn, WritesMemory}
use Rattle.evm_serve.specs.declared.ending.Verdict.{Verdict}
use Rattle.evm_serve.specs.declared.ending.Halt.{Halt}
use Rattle.evm_serve.specs.declared.ending.Halt.TheVariants.{NoMemory, WriteFailed}
use Rattle.evm_serve.specs.declared.ending.Ending.{Ending}
use Rattle.evm_serve.specs.declared.ending.Ending.TheVariants as endings

module _ {W : Type 0} (takes : W → Writing → List ℕ → W → Type 0) where
  -- A run came to its verdict and has written all of its report, or halted and has written a prefix: memory was refused to it, or a write failed.
  abbrev pub Plays : Report → W → W → Result Verdict Halt → Type 0
  Plays all w w' (Ok verdict) = Took takes w all.text w' × (verdict ≡ all.verdict) × EndsIn verdict all.text
  Plays all w w' (Err NoMemory) = MemoryRefused × ((prefix : List ℕ) × IsPrefix prefix all.text × Took takes w prefix w')
  Plays all w w' (Err (WriteFailed fault)) = TookPrefix takes w all.text w'

  -- Likewise a report that is one text: if memory was refused, nothing is written.
  abbrev pub WritesOnce : Report → W → W → Result Verdict Halt → Type 0
  WritesOnce all w w' (Ok verdict) = Took takes w all.text w' × (verdict ≡ all.verdict) × EndsIn verdict all.text
  WritesOnce all w w' (Err NoMemory) = MemoryRefused × (w' ≡ w)
  WritesOnce all w w' (Err (WriteFailed fault)) = TookPrefix takes w all.text w'

  -- How a run ends then: where an allocation failed, with the line `memory`.
  abbrev pub EndsAs : Result Verdict Halt → W → W → Ending → Type 0
  EndsAs (Ok verdict) w w' ending = (w' ≡ w) × (ending ≡ endings.Complete verdict)
  EndsAs (Err NoMemory) w w' ending = WritesMemory takes [] w w' ending
  EndsAs (Err (WriteFailed fault)) w w' ending = (w' ≡ w) × (ending ≡ endings.WriteFailed fault)
