-- The states that a run reaches: after a boot, with an image loaded or none, and a list of events.
use Rattle.std.specs.Prelude.{◌≡◌, ◌⊎◌, ◌%◌, ◌<◌, ◌≤◌, ◌^◌, ℕ, List, [], Some, false, slice_get, length}
use Rattle.evm_model.specs.Devices.{Attached}
use Rattle.evm_model.specs.Event.{Event}
use Rattle.evm_model.specs.Good.{AreDevices}
use Rattle.evm_model.specs.Load.{start_loaded}
use Rattle.evm_model.specs.Pipes.{Pipe, idle_pipe}
use Rattle.evm_model.specs.Replay.{bad_boot, start, replay}
use Rattle.evm_model.specs.State.{State}
use Rattle.evm_model.specs.declared.boot.Boot.{Boot}
use Rattle.evm_model.specs.declared.counts.Counts.{Counts}
use Rattle.evm_model.specs.declared.limits.TheConstants.{DEVICE_LIMIT}

-- a machine of these boot numbers, whatever they are, with any devices, of which there are at most 8, and with any image or none, is in this state after some events, refused ones among them
pub record Ran (boot : Boot) (s : State) : Type 0 where
  pub devices : List Attached
  pub few : length devices ≤ DEVICE_LIMIT
  pub events : List Event
  pub from : (s ≡ replay (start devices boot) events) ⊎ ((byte : ℕ → ℕ) × ((entry : ℕ) × (s ≡ replay (start_loaded devices byte entry boot) events)))

-- likewise, where the boot numbers are inside their limits, each device has words that its kind may have, and the image begins at a multiple of 4
pub record Reached (boot : Boot) (s : State) : Type 0 where
  pub devices : List Attached
  pub are : AreDevices devices
  pub fits : bad_boot boot ≡ false
  pub events : List Event
  pub from : (s ≡ replay (start devices boot) events) ⊎ ((byte : ℕ → ℕ) × ((entry : ℕ) × ((entry % 4 ≡ 0) × (s ≡ replay (start_loaded devices byte entry boot) events))))

-- a machine that has had no event, whose pipes are idle: any RAM, devices, tasks and processors
pub record HasHadNoEvent (s : State) : Type 0 where
  pub journal : s.journal ≡ []
  pub pipes : (c : ℕ) (pipe : Pipe) → slice_get s.board.parts.pipes c ≡ Some pipe → pipe ≡ idle_pipe

-- no count of a line has come near what 64 bits hold
pub record AreSmall (n : Counts) : Type 0 where
  pub raised : n.raised < 2 ^ 29
  pub merged : n.merged < 2 ^ 29
  pub received : n.received < 2 ^ 29
  pub oob_arrivals : n.oob.arrivals < 2 ^ 29
  pub oob_merged : n.oob.merged < 2 ^ 29
  pub oob_played : n.oob.played < 2 ^ 29
  pub inband_arrivals : n.in_band.arrivals < 2 ^ 29
  pub inband_merged : n.in_band.merged < 2 ^ 29
  pub inband_played : n.in_band.played < 2 ^ 29
