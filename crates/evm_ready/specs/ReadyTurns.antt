-- The turns of ready tasks: on each processor the levels of out-of-band ranks, and behind them one in-band level.
use Rattle.std.specs.Prelude.{◌≡◌, ◌≤◌, ℕ, ◌+◌, ◌-◌, ◌*◌, List, Option, Some, length}
use Rattle.evm_model.specs.declared.limits.TheConstants.{PROCESSOR_LIMIT}
use Rattle.evm_model.specs.declared.stage.Stage.{Stage}
use Rattle.evm_model.specs.declared.stage.Stage.TheVariants.{OutOfBand, InBand}
use Rattle.evm_ready.specs.declared.place.TheConstants.{LEVELS, IN_BAND_LEVEL}
use Rattle.evm_ready.specs.declared.place.Place.{Place}
use Rattle.evm_ready.specs.declared.turn.Turn.{Turn}
use Rattle.evm_ready.specs.Places.{AreCounted}
use Rattle.evm_ready.specs.Queues.{Queued, turn_for, turns_for}

-- the level of an out-of-band rank: the greatest rank has the first, and so has each above it
abbrev pub level : ℕ → ℕ
level rank = 199 - rank

-- out-of-band by rank, and in-band by stamp alone
abbrev pub turn_at : Stage → ℕ → ℕ → ℕ → Turn
turn_at OutOfBand cpu stamp rank = record { queue = Some (cpu * LEVELS + level rank); rank = rank; stamp = stamp }
turn_at InBand cpu stamp rank = record { queue = Some (cpu * LEVELS + IN_BAND_LEVEL); rank = 0; stamp = stamp }

abbrev pub place_turn : Place → ℕ → Turn
place_turn place rank = turn_at place.stage place.cpu place.stamp rank

-- the turn of a task of this rank
abbrev pub turn_of : Option Place → ℕ → Turn
turn_of place rank = turn_for place_turn place rank

-- the turns of all tasks
abbrev pub ready_turns : List (Option Place) → List ℕ → List Turn
ready_turns places ranks = turns_for place_turn places ranks

-- count tasks are ready out-of-band, each task has a rank and the turn that its place gives it, and these
-- processors have queues
pub record AreReady (count : ℕ) (places : List (Option Place)) (ranks : List ℕ) (queued : Queued) (processors : ℕ) : Type 0 where
  pub counted : AreCounted count places
  pub ranked : length ranks ≡ length places
  pub turns : queued.turns ≡ ready_turns places ranks
  pub queues : queued.count ≡ processors * LEVELS
  pub limit : processors ≤ PROCESSOR_LIMIT
