-- Where a machine begins, and what becomes of a line there.
use Rattle.std.specs.Prelude.{◌≡◌, ◌⊎◌, ◌+◌, ◌≤◌, ℕ, List, if◌then◌else◌, length}
use Rattle.evm_lines.specs.Lines.{has_line}
use Rattle.evm_model.specs.Devices.{Attached}
use Rattle.evm_model.specs.Load.{start_loaded}
use Rattle.evm_model.specs.Pipes.{Pipe}
use Rattle.evm_model.specs.Replay.{start}
use Rattle.evm_model.specs.State.{State}
use Rattle.evm_model.specs.declared.boot.Boot.{Boot}
use Rattle.evm_model.specs.declared.counts.Counts.{Counts}
use Rattle.evm_model.specs.declared.limits.TheConstants.{DEVICE_LIMIT}

-- a machine of these boot numbers, with any devices, of which there are at most 8, and with any image or none, that has had no event
pub record IsBooted (boot : Boot) (s : State) : Type 0 where
  pub devices : List Attached
  pub few : length devices ≤ DEVICE_LIMIT
  pub from : (s ≡ start devices boot) ⊎ ((byte : ℕ → ℕ) × ((entry : ℕ) × (s ≡ start_loaded devices byte entry boot)))

-- how often line l of a processor is pending: once if it is on its wire, once if it is in the log of a stage
abbrev pub pending : Pipe → ℕ → ℕ
pending pipe l =
    (if has_line pipe.wire l then 1 else 0) + (if has_line pipe.oob.lines l then 1 else 0) + (if has_line pipe.in_band.lines l then 1 else 0)

-- how often a line merged with itself, on its wire or in a log
abbrev pub merged : Counts → ℕ
merged n = n.merged + n.oob.merged + n.in_band.merged

-- how often a line was played, on either stage
abbrev pub played : Counts → ℕ
played n = n.oob.played + n.in_band.played
