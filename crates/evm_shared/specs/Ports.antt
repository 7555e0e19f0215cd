-- What contracts see of shares, of ports and of what lies under the lock.
use Rattle.std.specs.Prelude.{◌≡◌, ℕ, ◌+◌, ◌-◌, ◌<◌, ◌≤◌, ◌⊎◌, ◌==◌, if◌then◌else◌, Bool, true, false, All, MatchBool, nat_lt, List, [], ◌∷◌, ◌++◌, length, None, Result, Ok, Err, MatchResult, ⊤}
use mathlib.Core.List.{IsPrefix}
use Rattle.evm_core.specs.Commit.{TakesBurst, LastAnswers, code_at, current_hart}
use Rattle.evm_core.specs.Steps.{steps}
use Rattle.evm_core.specs.declared.committing.Committed.{Committed}
use Rattle.evm_exec.specs.Burst.{Speculated}
use Rattle.evm_lines.specs.declared.TheConstants.{LINES}
use Rattle.evm_model.specs.Event.{Event}
use Rattle.evm_model.specs.Replay.{apply, start, IsReplayOf}
use Rattle.evm_model.specs.State.{State, newest}
use Rattle.evm_model.specs.declared.boot.Boot.{Boot}
use Rattle.evm_model.specs.declared.event.Answer.{Answer}
use Rattle.evm_model.specs.declared.event.Event.TheVariants.{Step}
use Rattle.evm_model.specs.declared.limits.TheConstants.{WIDE_PROFILE}
use Rattle.evm_model.specs.declared.refusal.Refusal.{Refusal}
use Rattle.evm_model.specs.declared.refusal.Refusal.TheVariants.{Full, NoSuchCpu, BadSize, NoMemory}
use Rattle.evm_shared.specs.EventCounts.{BeginsWith, counts, none, plus, kind_counts}
use Rattle.evm_shared.specs.Histories.{IsMadeBy}
use Rattle.evm_shared.specs.Receipts.{receipt, made_events}
use Rattle.evm_room.specs.Growth.{RefusedWithin}
use Rattle.evm_shared.specs.declared.shared.TheConstants.{PORT_LIMIT}
use Rattle.evm_shared.specs.declared.event_counts.EventCounts.{EventCounts}
use Rattle.evm_shared.specs.declared.receipt.Made.{Made}
use Rattle.evm_shared.specs.declared.receipt.Made.TheVariants.{Steps, Bells, One}
use Rattle.evm_shared.specs.declared.receipt.Receipt.{Receipt}

-- some parts of the ledgers, and what they have counted
pub record SharesValue : Type 0 where
  pub parts : ℕ
  pub amount : EventCounts

abbrev pub shares_of : ℕ → EventCounts → SharesValue
shares_of parts amount = record { parts = parts; amount = amount }

-- a machine, and the book and the history of the calls since it came under the lock
pub record LockedValue : Type 0 where
  pub machine : State
  pub book : EventCounts
  pub log : List Made

-- the machine is its journal's replay from start, which has all lines, and its journal has as many events of each kind as base and book,
-- those of base first; the calls of the log have made it of the one that came under the lock, which is a replay from start, too
pub record IsAccounted (start begun : State) (base : EventCounts) (machine : State) (book : EventCounts) (log : List Made) : Type 0 where
  pub replays : IsReplayOf start machine
  pub lines : WIDE_PROFILE ≤ start.boot.profile
  pub counted : kind_counts machine.journal ≡ plus base book
  pub begins : BeginsWith base machine.journal
  pub opened : IsReplayOf start begun
  pub made : IsMadeBy begun log machine

-- the events made through it, the history as its last call left it, its receipts and the room for more, the journal's length when
-- it was made, and its marks
pub record PortValue : Type 0 where
  pub share : EventCounts
  pub log : List Made
  pub receipts : List Receipt
  pub room : ℕ
  pub since : ℕ
  pub full : Bool
  pub short : Bool

-- a port that was just made
abbrev pub fresh_port : ℕ → ℕ → PortValue
fresh_port receipts since = record { share = none; log = []; receipts = []; room = receipts; since = since; full = false; short = false }

-- what all of them have made
abbrev pub made_by : List PortValue → EventCounts
made_by [] = none
made_by (p ∷ ports) = plus p.share (made_by ports)

-- the end: the calls that have made the machine, and those that each port has seen, are beginnings of one history
abbrev pub EndsHistory : State → State → List PortValue → Type 0
EndsHistory opened machine ports =
    (log : List Made) × (all : List Made) × IsMadeBy opened log machine × IsPrefix log all × All (λ p. IsPrefix p.log all) ports

-- no machine: it has no processor
abbrev pub no_machine : State
no_machine = start [] (newest 0 0 0)

-- a number of ports that is outside its limits
abbrev pub bad_ports : ℕ → Bool
bad_ports n = if n == 0 then true else nat_lt PORT_LIMIT n

-- a machine of this boot has fewer lines than bells have
abbrev pub lacks_lines : Boot → Bool
lacks_lines boot = nat_lt boot.profile WIDE_PROFILE

-- why a machine of this boot is not shared by n ports, with room for m receipts each
abbrev pub RefusesPorts : Boot → ℕ → ℕ → Refusal → Type 0
RefusesPorts boot ports receipts BadSize = (lacks_lines boot ≡ true) ⊎ (bad_ports ports ≡ true)
RefusesPorts boot ports receipts NoMemory = (lacks_lines boot ≡ false) × (bad_ports ports ≡ false) × RefusedWithin (ports + receipts)
RefusesPorts boot ports receipts _ = ⊥

-- ---- what a call leaves of its port

-- with a receipt, where there was room
abbrev pub recorded : ℕ → Made → PortValue → PortValue
recorded position made p = if p.room == 0 then p else (record p { receipts = p.receipts ++ receipt position made ∷ []; room = p.room - 1 })

-- with this history
abbrev pub with_log : List Made → PortValue → PortValue
with_log log p = record p { log = log }

-- a call that was accepted on this machine: the history goes on with it, the share has grown by these counts, and there is a receipt
-- at the journal's end
abbrev pub Records : List Made → State → Made → EventCounts → PortValue → PortValue → Type 0
Records log before made more old new = new ≡ recorded (length before.journal) made (record old { share = plus old.share more; log = log ++ made ∷ [] })

-- a deliver that took these lines of processor c: where there are any, they are its Bells
abbrev pub Delivers : List Made → State → ℕ → ℕ → PortValue → PortValue → Type 0
Delivers log before c word old new =
    MatchBool (word == 0) (new ≡ with_log log old) (Records log before (Bells c word) (counts 0 (length (made_events (Bells c word))) 0) old new)

-- a call that was refused: a Full sets the mark full, and nothing else is changed
abbrev pub marked : Refusal → PortValue → PortValue
marked Full p = record p { full = true }
marked _ p = p

-- a deliver that was refused: a Full sets the mark short, and nothing else is changed
abbrev pub marked_short : Refusal → PortValue → PortValue
marked_short Full p = record p { short = true }
marked_short _ p = p

-- a refusal as Full has left one of the marks
abbrev pub IsMarked : Refusal → PortValue → Type 0
IsMarked Full p = (p.full ≡ true) ⊎ (p.short ≡ true)
IsMarked _ p = Unit {0}

-- ---- what a call found under the lock

-- all calls so far, of which these were known, the machine that they have made of start, and what holds of both
abbrev pub Found : State → List Made → (List Made → State → Type 0) → Type 0
Found start known such = (log : List Made) × (before : State) × IsPrefix known log × IsMadeBy start log before × such log before

-- a commit of a burst on processor c of this machine: the Steps that are taken of it and one more, and all that it answers
abbrev pub IsCommit : State → ℕ → Speculated → Committed → Type 0
IsCommit before c burst done =
    (after : State) × (0 < done.steps) × TakesBurst (done.steps - 1) c burst before × (steps c done.steps before ≡ (after, None))
    × LastAnswers c done.steps done.answer before after × (done.next ≡ current_hart c after.board.parts) × (done.code.items ≡ code_at done.next after.board.memory)

-- an event that this machine accepts, and its answer
abbrev pub Accepts : State → Event → Answer → Type 0
Accepts before event answer = (after : State) × (apply before event ≡ Ok (after, answer))

-- the machine has room for a Bell of each line
abbrev pub HasBellRoom : State → Type 0
HasBellRoom s = length s.journal + LINES ≤ s.boot.capacity

-- a deliver is refused: there is no such room, or the machine or the bells lack the processor
abbrev pub RefusesBells : State → ℕ → ℕ → Refusal → Type 0
RefusesBells s cpus c why =
    ((why ≡ Full) × (s.boot.capacity < length s.journal + LINES)) ⊎ ((why ≡ NoSuchCpu) × ((length s.board.parts.processors ≤ c) ⊎ (cpus ≤ c)))

-- ---- calls through a port, by what they return and what they leave of the port

-- what a call answers that puts its value into room which its caller lends
abbrev pub with_room : Result ⊤ Refusal → Committed → Result Committed Refusal
with_room (Ok done) room = Ok room
with_room (Err why) room = Err why

abbrev pub MakesSteps : State → ℕ → Speculated → Result Committed Refusal → PortValue → PortValue → Type 0
MakesSteps start c burst result old new =
    Found start old.log (λ log before. MatchResult result
    (λ done. IsCommit before c burst done × Records log before (Steps c done.steps) (counts done.steps 0 0) old new)
    (λ why. (apply before (Step c) ≡ Err why) × (new ≡ marked why (with_log log old))))

abbrev pub MakesBells : State → ℕ → ℕ → Result ℕ Refusal → PortValue → PortValue → Type 0
MakesBells start cpus c result old new =
    Found start old.log (λ log before. MatchResult result
    (λ word. HasBellRoom before × Delivers log before c word old new)
    (λ why. RefusesBells before cpus c why × (new ≡ marked_short why (with_log log old))))

abbrev pub MakesOne : State → Event → Result Answer Refusal → PortValue → PortValue → Type 0
MakesOne start event result old new =
    Found start old.log (λ log before. MatchResult result
    (λ answer. Accepts before event answer × Records log before (One event) (kind_counts (event ∷ [])) old new)
    (λ why. (apply before event ≡ Err why) × (new ≡ marked why (with_log log old))))

-- ---- why a call on processor c is refused: Full, or no such processor

-- the machine lacks it
abbrev pub RefusesCpu : State → ℕ → Refusal → Type 0
RefusesCpu start c why = (why ≡ Full) ⊎ ((why ≡ NoSuchCpu) × (start.boot.cpus ≤ c))

-- the machine or the bells lack it
abbrev pub RefusesEither : State → ℕ → ℕ → Refusal → Type 0
RefusesEither start cpus c why = (why ≡ Full) ⊎ ((why ≡ NoSuchCpu) × ((start.boot.cpus ≤ c) ⊎ (cpus ≤ c)))
