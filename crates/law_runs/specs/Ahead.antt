-- Tasks that are ahead by private rows: rows that change the registers and the pc of their task alone.
use Rattle.std.specs.Prelude.{◌≡◌, ℕ, zero, suc, ◌+◌, ◌-◌, ◌==◌, ◌&&◌, List, [], Option, Some, None, Bool, true, false, length, nat_le, nat_lt, if◌then◌else◌, slice_get}
use Rattle.evm_isa.specs.Decoded.{decoded}
use Rattle.evm_isa.specs.declared.inst.Inst.{Inst}
use Rattle.evm_exec.specs.Does.{does}
use Rattle.evm_exec.specs.declared.hart.Hart.{Hart}
use Rattle.evm_exec.specs.declared.outcome.Effect.{Effect}
use Rattle.evm_exec.specs.declared.outcome.Effect.TheVariants.{Next}
use Rattle.evm_lines.specs.Lines.{least_line}
use Rattle.evm_model.specs.Good.{Good, is_ready}
use Rattle.evm_model.specs.Harts.{set_register, set_pc}
use Rattle.evm_model.specs.Memory.{fetch}
use Rattle.evm_model.specs.Pipes.{Pipe}
use Rattle.evm_model.specs.Rows.{row}
use Rattle.evm_model.specs.Settle.{settle_and_nudge}
use Rattle.evm_model.specs.State.{Board, Memory, Parts}
use Rattle.evm_model.specs.declared.event.Answer.TheVariants.{Ran}
use Rattle.evm_model.specs.declared.event.Event.TheVariants.{Step, Tick, Raise}
use Rattle.evm_model.specs.declared.processor.Processor.{Processor}
use Rattle.evm_model.specs.declared.task.Task.{Task}

-- ---- private rows
-- what an effect makes of a hart, where it is of the registers and the pc alone
abbrev pub private_effect : Effect → Hart → Option Hart
private_effect (Next rd value pc) hart = Some (set_pc pc (set_register rd value hart))
private_effect _ hart = None

abbrev pub private_inst : Option Inst → Hart → Option Hart
private_inst None hart = None
private_inst (Some inst) hart = private_effect (does inst hart.regs hart.pc) hart

abbrev pub private_word : Option ℕ → Hart → Option Hart
private_word None hart = None
private_word (Some word) hart = private_inst (decoded word) hart

-- the words of RAM at addresses from low on, below high
abbrev pub text : ℕ → ℕ → Memory → ℕ → Option ℕ
text low high memory pc = if nat_le low pc && nat_lt pc high then fetch pc memory else None

-- what a private row makes of a hart, by the word of the text at its pc; None where its row isn't private
abbrev pub private_hart : (ℕ → Option ℕ) → Option Hart → Option Hart
private_hart code None = None
private_hart code (Some hart) = private_word (code hart.pc) hart

-- what n private rows make of a hart
abbrev pub goes : (ℕ → Option ℕ) → ℕ → Option Hart → Option Hart
goes code zero hart = hart
goes code (suc n) hart = goes code n (private_hart code hart)

-- ---- tasks that are ahead
-- the words that private rows are taken from, and by how many rows each task is ahead
pub record HeadStart : Type 0 where
  pub code : ℕ → Option ℕ
  pub rows : ℕ → ℕ

abbrev pub has_ready_state : Option Task → Bool
has_ready_state None = false
has_ready_state (Some task) = is_ready task.state

-- parts that differ in harts alone: each task that is ahead is ready, and has gone its rows
pub record Ahead (lead : HeadStart) (p q : Parts) : Type 0 where
  pub same : (record p { harts = [] }) ≡ (record q { harts = [] })
  pub ahead : (t : ℕ) → slice_get q.harts t ≡ goes lead.code (lead.rows t) (slice_get p.harts t)
  pub ready : (t n : ℕ) → lead.rows t ≡ suc n → has_ready_state (slice_get p.tasks t) ≡ true
  pub count : length p.harts ≡ length p.tasks
  pub other_count : length q.harts ≡ length q.tasks

-- boards with such parts, and all else the same
pub record BoardsAhead (lead : HeadStart) (a b : Board) : Type 0 where
  pub memory : a.memory ≡ b.memory
  pub breakpoints : a.breakpoints ≡ b.breakpoints
  pub parts : Ahead lead a.parts b.parts

-- the private rows are those of the text from low on, below high
abbrev pub TasksAhead : ℕ → ℕ → (ℕ → ℕ) → Board → Board → Type 0
TasksAhead low high rows a b = BoardsAhead (record { code = text low high a.memory; rows = rows }) a b

-- ---- the laws
-- whose instruction a processor with this least line on its wire does next, if it isn't stopped
abbrev pub actor_now : Option ℕ → Processor → Option ℕ
actor_now None p = p.current
actor_now (Some l) p = None

abbrev pub actor_on : Option Pipe → Processor → Option ℕ
actor_on None p = None
actor_on (Some pipe) p = actor_now (least_line pipe.wire) p

abbrev pub actor_among : Option Processor → Option Pipe → Option ℕ
actor_among None pipe = None
actor_among (Some p) pipe = if p.stopped then None else actor_on pipe p

-- the task that a Step of processor c does an instruction of; None where c is stopped, receives a line or idles
abbrev pub actor : ℕ → Board → Option ℕ
actor c b = actor_among (slice_get b.parts.processors c) (slice_get b.parts.pipes c)

-- the text is the same
abbrev pub SameText : ℕ → ℕ → Memory → Memory → Type 0
SameText low high m n = (pc : ℕ) → text low high n pc ≡ text low high m pc

-- where tasks are ahead Steps are of the same tasks
abbrev pub ActorsAreSame : Type 0
ActorsAreSame = (low high : ℕ) (rows : ℕ → ℕ) (c : ℕ) (a b : Board) → TasksAhead low high rows a b → actor c a ≡ actor c b

-- where the rules hold these tasks are ready
abbrev pub ActorsAreReady : Type 0
ActorsAreReady = (c t : ℕ) (b : Board) → Good b.parts → actor c b ≡ Some t → has_ready_state (slice_get b.parts.tasks t) ≡ true

-- a Step that leaves the text, and is of no task that is ahead, leaves each task as many rows ahead, and answers the same
abbrev pub StepsKeepAhead : Type 0
StepsKeepAhead = (low high : ℕ) (rows : ℕ → ℕ) (c : ℕ) (a b : Board) → TasksAhead low high rows a b → ((t : ℕ) → actor c a ≡ Some t → rows t ≡ 0)
    → SameText low high a.memory (row (Step c) a).0.memory → TasksAhead low high rows (row (Step c) a).0 (row (Step c) b).0 × ((row (Step c) a).1 ≡ (row (Step c) b).1)

-- so does a Tick
abbrev pub TicksKeepAhead : Type 0
TicksKeepAhead = (low high : ℕ) (rows : ℕ → ℕ) (a b : Board) → TasksAhead low high rows a b → TasksAhead low high rows (row Tick a).0 (row Tick b).0 × ((row Tick a).1 ≡ (row Tick b).1)

-- and a Raise
abbrev pub RaisesKeepAhead : Type 0
RaisesKeepAhead = (low high : ℕ) (rows : ℕ → ℕ) (c line : ℕ) (a b : Board) → TasksAhead low high rows a b
    → TasksAhead low high rows (row (Raise c line) a).0 (row (Raise c line) b).0 × ((row (Raise c line) a).1 ≡ (row (Raise c line) b).1)

-- ---- private steps
-- what follows an event of task t on processor c changes nothing, whatever the harts are
abbrev pub SettlesNothing : ℕ → ℕ → Parts → Type 0
SettlesNothing c t p = (harts : List Hart) → settle_and_nudge (Some t) c (record p { harts = harts }) ≡ record p { harts = harts }

abbrev pub skips : Option Processor → Bool
skips None = false
skips (Some p) = p.skip

-- processor c does an instruction of task t, no breakpoint is set, its skip bit is off, and nothing follows a change of harts
pub record IsAtTask (c t : ℕ) (b : Board) : Type 0 where
  pub acts : actor c b ≡ Some t
  pub unbroken : b.breakpoints ≡ []
  pub unskipped : skips (slice_get b.parts.processors c) ≡ false
  pub rests : SettlesNothing c t b.parts

-- task t has a row less, or a row more
abbrev pub one_less : ℕ → (ℕ → ℕ) → ℕ → ℕ
one_less t rows u = if u == t then rows u - 1 else rows u

abbrev pub one_more : ℕ → (ℕ → ℕ) → ℕ → ℕ
one_more t rows u = if u == t then rows u + 1 else rows u

-- a Step of a task that is ahead catches up by one row
abbrev pub StepsCatchUp : Type 0
StepsCatchUp = (low high : ℕ) (rows : ℕ → ℕ) (c t n : ℕ) (a b : Board) → TasksAhead low high rows a b → IsAtTask c t a → rows t ≡ suc n
    → TasksAhead low high (one_less t rows) (row (Step c) a).0 b × ((row (Step c) a).1 ≡ Ran t)

-- a Step of a private row puts a ready task ahead by one row more
abbrev pub StepsGoAhead : Type 0
StepsGoAhead = (low high : ℕ) (rows : ℕ → ℕ) (c t : ℕ) (next : Hart) (a b : Board) → TasksAhead low high rows a b → IsAtTask c t b → has_ready_state (slice_get b.parts.tasks t) ≡ true
    → private_hart (text low high b.memory) (slice_get b.parts.harts t) ≡ Some next → TasksAhead low high (one_more t rows) a (row (Step c) b).0 × ((row (Step c) b).1 ≡ Ran t)

-- no task is ahead of itself
abbrev pub NoneIsAhead : Type 0
NoneIsAhead = (low high : ℕ) (a : Board) → length a.parts.harts ≡ length a.parts.tasks → TasksAhead low high (λ _. 0) a a
