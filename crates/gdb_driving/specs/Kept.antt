-- What each call keeps: a machine that is the replay of its journal stays so.
use Rattle.std.specs.Prelude.{◌≡◌}
use Rattle.evm_model.specs.Replay.{IsReplayOf}
use Rattle.evm_model.specs.State.{State}

pub record KeepsJournal (old new : State) : Type 0 where
  pub replays : (first : State) → IsReplayOf first old → IsReplayOf first new
  pub booted : new.boot ≡ old.boot
