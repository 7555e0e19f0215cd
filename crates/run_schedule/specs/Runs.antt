-- What a run has done.
use Rattle.std.specs.Prelude.{ℕ, List, ◌++◌}
use Rattle.evm_ram.specs.Images.{Contents}
use Rattle.evm_model.specs.Replay.{IsReplayOf}
use Rattle.evm_model.specs.State.{State}
use Rattle.evm_model.specs.declared.boot.Boot.{Boot}
use Rattle.hunt_schedules.specs.Beginning.{Begins}
use Rattle.evm_streams.specs.declared.sink.Writing.{Writing}
use Rattle.evm_streams.specs.Writes.{Took}
use Rattle.run_schedule.specs.Console.{HasPrinted, Printed, console_text}
use Rattle.run_schedule.specs.Endings.{IsEnded}
use Rattle.run_schedule.specs.declared.ending.RunEnd.{RunEnd}

-- what a sink took of what a machine has printed, the rest being kept
pub record HasToldSome {W : Type 0} (takes : W → Writing → List ℕ → W → Type 0) (start : W) (first s : State) (sink : W) (kept : Printed) : Type 0 where
  pub sunk : List ℕ
  pub took : Took takes start sunk sink
  pub printed : HasPrinted first s (record kept { text = sunk ++ kept.text })

-- A run has ended: the machine is the replay of its journal from the boot with the image, and a sink took the text of its consoles and
-- nothing else.
pub record HasRun {W : Type 0} (takes : W → Writing → List ℕ → W → Type 0) (image : Contents) (boot : Boot) (start : W) (ending : RunEnd) (s : State) (sink : W) : Type 0 where
  pub first : State
  pub begins : Begins image boot first
  pub replayed : IsReplayOf first s
  pub ended : IsEnded ending s
  pub told : Took takes start (console_text first s) sink
