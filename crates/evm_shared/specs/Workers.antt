-- What contracts see of workers, and what a run does to them.
use Rattle.std.specs.Prelude.{◌≡◌, ℕ, zero, suc, ◌+◌, ◌<◌, ◌≤◌, ◌⊎◌, Ok, Err, List, [], ◌∷◌, ◌++◌, Option, Some, None, MatchOption, nat_le, if◌then◌else◌}
use Rattle.evm_bells.specs.Seats.{TakerValue}
use Rattle.evm_core.specs.declared.committing.Committed.{Committed}
use Rattle.evm_exec.specs.Burst.{Speculated}
use Rattle.evm_model.specs.State.{State}
use Rattle.evm_model.specs.Refusals.{number_of}
use Rattle.evm_model.specs.declared.refusal.Refusal.{Refusal}
use Rattle.evm_shared.specs.Lookaheads.{IsAhead, IsUsed, Remembers, LookaheadValue}
use Rattle.evm_shared.specs.Ports.{IsMarked, MakesBells, MakesSteps, PortValue, RefusesEither}

-- its processor, its port and its taker, what it does ahead, and why its last run ended before all its turns
pub record WorkerValue : Type 0 where
  pub cpu : ℕ
  pub port : PortValue
  pub taker : TakerValue
  pub ahead : LookaheadValue
  pub refused : Option Refusal

-- a turn: it delivers the lines that were rung, then commits what was done ahead from the hart that its last commit answered,
-- and keeps the hart and the code that this commit answers
pub record MakesTurn (start : State) (cpus : ℕ) (old new : WorkerValue) : Type 0 where
  pub word : ℕ
  pub delivered : PortValue
  pub burst : Speculated
  pub used : LookaheadValue
  pub done : Committed
  pub taken : new.taker.taken ≡ old.taker.taken ++ (old.cpu, word) ∷ []
  pub bells : MakesBells start cpus old.cpu (Ok word) old.port delivered
  pub speculates : IsAhead old.ahead.next old.ahead.cache burst × IsUsed burst old.ahead used
  pub commits : MakesSteps start old.cpu burst (Ok done) delivered new.port
  pub keeps : Remembers done used new.ahead
  pub same : (new.cpu ≡ old.cpu) × (new.taker.bells ≡ old.taker.bells)

-- a turn whose deliver was refused: it takes nothing, and does nothing ahead
abbrev pub LacksDeliver : State → ℕ → WorkerValue → WorkerValue → Refusal → Type 0
LacksDeliver start cpus old new why = MakesBells start cpus old.cpu (Err why) old.port new.port × (new.taker ≡ old.taker) × (new.ahead ≡ old.ahead)

-- a turn whose commit was refused: it has delivered, and keeps the hart of the commit before
abbrev pub LacksCommit : State → ℕ → WorkerValue → WorkerValue → Refusal → Type 0
LacksCommit start cpus old new why =
    (word : ℕ) × (delivered : PortValue) × (burst : Speculated) × (new.taker.taken ≡ old.taker.taken ++ (old.cpu, word) ∷ [])
    × MakesBells start cpus old.cpu (Ok word) old.port delivered × IsAhead old.ahead.next old.ahead.cache burst × IsUsed burst old.ahead new.ahead
    × MakesSteps start old.cpu burst (Err why) delivered new.port

-- a turn that was refused: its deliver or its commit
abbrev pub RefusesTurn : State → ℕ → WorkerValue → WorkerValue → Refusal → Type 0
RefusesTurn start cpus old new why = LacksDeliver start cpus old new why ⊎ LacksCommit start cpus old new why

-- turns, one after the other
abbrev pub MakesTurns : State → ℕ → ℕ → WorkerValue → WorkerValue → Type 0
MakesTurns start cpus zero old new = new ≡ (record old { refused = None })
MakesTurns start cpus (suc n) old new = (between : WorkerValue) × MakesTurns start cpus n old between × MakesTurn start cpus between new

-- fewer than some turns, each with a Step at least, and then one that was refused: as Full, which left a mark, or since there is no such processor
abbrev pub StopsTurns : State → ℕ → ℕ → WorkerValue → WorkerValue → Refusal → Type 0
StopsTurns start cpus turns old new why =
    (made : ℕ) × (between : WorkerValue) × (made < turns) × MakesTurns start cpus made old between × (old.port.share.steps + made ≤ new.port.share.steps)
    × RefusesTurn start cpus between new why × RefusesEither start cpus old.cpu why × IsMarked why new.port

-- after a run of some turns: all were made, each with a Step at least, or the next was refused
abbrev pub HasTurned : State → ℕ → ℕ → WorkerValue → WorkerValue → Type 0
HasTurned start cpus turns old new =
    (new.cpu ≡ old.cpu) × (new.taker.bells ≡ old.taker.bells)
    × MatchOption new.refused
    (MakesTurns start cpus turns old new × (old.port.share.steps + turns ≤ new.port.share.steps))
    (λ why. StopsTurns start cpus turns old new why)

-- of two, the refusal of the lesser number
abbrev pub lesser_refusal : Option Refusal → Option Refusal → Option Refusal
lesser_refusal None other = other
lesser_refusal (Some why) None = Some why
lesser_refusal (Some why) (Some other) = if nat_le (number_of why) (number_of other) then Some why else Some other

-- the refusal of the least number
abbrev pub least_refusal : List WorkerValue → Option Refusal
least_refusal [] = None
least_refusal (w ∷ workers) = lesser_refusal w.refused (least_refusal workers)
