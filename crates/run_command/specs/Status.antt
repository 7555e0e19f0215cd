-- When a run has status 0.
use Rattle.std.specs.Prelude.{◌≡◌, ℕ, List}
use Rattle.evm_ram.specs.Images.{Contents}
use Rattle.evm_model.specs.State.{State}
use Rattle.evm_model.specs.declared.boot.Boot.{Boot}
use Rattle.evm_streams.specs.declared.sink.Writing.{Writing}
use Rattle.run_schedule.specs.Runs.{HasRun}
use Rattle.run_schedule.specs.declared.ending.RunEnd.TheVariants.{AllEnded}

-- Status 0: a run of the image has ended with all tasks ended by exit, and standard output took the text of its consoles and nothing else.
abbrev pub Succeeds : {W : Type 0} → (W → Writing → List ℕ → W → Type 0) → Contents → ℕ → W → W → Type 0
Succeeds takes image status start sink = status ≡ 0 → (s : State) × (boot : Boot) × HasRun takes image boot start AllEnded s sink
