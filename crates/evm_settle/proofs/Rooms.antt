-- Room for counts, as an out-of-band play takes it up.
use Rattle.std.proofs.Common.{◌≡◌, ℕ, Option, ◌-◌, ◌∙◌, arith}
use Rattle.evm_model.specs.Actions.{act}
use Rattle.evm_model.specs.Bounds.{COUNT_LIMIT, PipesUpTo}
use Rattle.evm_model.specs.Deadlines.{end_waits}
use Rattle.evm_model.specs.Pipes.{arrive, play}
use Rattle.evm_model.specs.Settle.{spend, play_tick}
use Rattle.evm_model.specs.State.{Parts, on_pipe}
use Rattle.evm_model.specs.Timers.{expire_timers}
use Rattle.evm_model.specs.declared.action.Action.{Action}
use Rattle.evm_model.specs.declared.stage.Stage.{Stage}
use Rattle.evm_model.specs.declared.stage.Stage.TheVariants.{InBand}
use Rattle.law_rules.proofs.Counted.{PipesUpTo-more}
use Rattle.law_rules.proofs.PlayingWalks.{act_apart, spend_apart, timers_apart, waits_apart}
use Rattle.law_rules.proofs.Counting.{on_play-up}
use Rattle.law_rules.proofs.Spending.{end_waits-gives, expire_timers-gives, act-gives, of-spends, watch-gives}

-- one play before one arrival
pub room-play : (c : ℕ) (stage : Stage) (l : ℕ) (k : Parts) → PipesUpTo (COUNT_LIMIT - 1) k.pipes → PipesUpTo COUNT_LIMIT (on_pipe c (play stage l) k).pipes
room-play c stage l k h = on_play-up (COUNT_LIMIT - 1) c stage l k h

pub room-less : (k : Parts) → PipesUpTo (COUNT_LIMIT - 1) k.pipes → PipesUpTo COUNT_LIMIT k.pipes
room-less k h = PipesUpTo-more (COUNT_LIMIT - 1) COUNT_LIMIT k.pipes (omega arith) h

-- ---- an out-of-band play leaves the clock
pub waits-clock : (c : ℕ) (k : Parts) → (end_waits c k).ticks ≡ k.ticks
waits-clock c k = (end_waits-gives c k).ticks

pub tick-clock : (was : Option ℕ) (c : ℕ) (k : Parts) → (play_tick was c k).ticks ≡ k.ticks
unfolding play_tick
tick-clock was c k =
    let arrived : Parts = on_pipe c (arrive InBand 0) k in
    let waited : Parts = end_waits c arrived in
    (watch-gives was c (spend was (expire_timers c waited))).ticks ∙ (of-spends was (expire_timers c waited)).ticks ∙ (expire_timers-gives c waited).ticks ∙ waits-clock c arrived

pub act-clock : (action : Action) (l : ℕ) (k : Parts) → (act action l k).ticks ≡ k.ticks
act-clock action l k = (act-gives action l k).ticks

-- ---- and makes no notice before the watchdog's
pub waits-noted : (c : ℕ) (k : Parts) → (end_waits c k).notices ≡ k.notices
waits-noted c k = (waits_apart c k).notices

pub timers-noted : (c : ℕ) (k : Parts) → (expire_timers c k).notices ≡ k.notices
timers-noted c k = (timers_apart c k).notices

pub spend-noted : (was : Option ℕ) (k : Parts) → (spend was k).notices ≡ k.notices
spend-noted was k = (spend_apart was k).notices

pub act-noted : (action : Action) (l : ℕ) (k : Parts) → (act action l k).notices ≡ k.notices
act-noted action l k = (act_apart action l k).notices

pub ruleset rooms = (room-play, room-less, act-noted)

pub ruleset clocks = (waits-clock, waits-noted, timers-noted, spend-noted)
