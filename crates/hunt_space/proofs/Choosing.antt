-- What may come at a state: what forks from there, and where nothing more can happen.
use Rattle.std.proofs.Common.{◌≡◌, ◌≢◌, ℕ, ◌<◌, List, [], ◌∷◌, Bool, Some, true, length, refl, sym, ap, subst, arith}
use Rattle.std.specs.Prelude.{slice_get}
use Rattle.evm_lines.specs.Lines.{has_line}
use Rattle.evm_model.specs.Event.{Event}
use Rattle.evm_model.specs.State.{State}
use Rattle.evm_model.specs.declared.event.Event.TheVariants.{Step, Tick, Raise, Bell, Stop, Go, StepI, SetReg, SetPc, Poke, Break, Unbreak}
use Rattle.hunt_failures.specs.Awake.{IsAwake, IsOver}
use Rattle.hunt_schedules.specs.Branches.{event_of_choice}
use Rattle.hunt_schedules.specs.declared.branch.Choice.{Choice}
use Rattle.hunt_schedules.specs.declared.branch.Choice.TheVariants as choices
use Rattle.law_runs.specs.Ahead.{actor}
use Rattle.law_runs.specs.Sparing.{spares_text}
use Rattle.law_runs.specs.Timeless.{CallsNoClock}
use Rattle.hunt_space.specs.Exploring.{HasForks, IsOpened, MayFollow}
use Rattle.hunt_space.specs.Raises.{raise_count}
use Rattle.hunt_space.specs.Runs.{MayHaveMore, MayCome}
use Rattle.hunt_space.specs.Space.{AreAllPaths, CallsNone, IsUndebugged, SparesText}
use Rattle.hunt_space.specs.declared.bounds.Bound.{Bound}
use Rattle.hunt_space.specs.declared.bounds.EventBounds.{EventBounds}
use Rattle.hunt_space.specs.declared.bounds.Bound.TheVariants.{AtMost, Free}
use Rattle.hunt_space.specs.declared.path.Path.{Path}

-- the processors that may step
abbrev pub HasAwake : List ℕ → State → Type 0
HasAwake awake s = (c : ℕ) → IsAwake c s → (i : ℕ) × (slice_get awake i ≡ Some c)

may-follow : (lines given awake : List ℕ) (cpus c : ℕ) (tick : Bool) (bounds : EventBounds) (s : State) (choice : Choice) → HasAwake awake s → cpus ≡ length s.board.parts.processors
    → (MayHaveMore bounds.ticks s.board.parts.ticks → tick ≡ true) → (MayHaveMore bounds.raises (raise_count s.journal) → given ≡ lines)
    → MayCome lines bounds s (event_of_choice choice) → event_of_choice choice ≢ Step c → MayFollow c awake cpus given tick choice
may-follow lines given awake cpus c tick bounds s (choices.Step d) all count ticks raises may other =
    ((λ same. other (ap (λ (n : ℕ). let event : Event = Step n in event) same)), (all d may).0, (all d may).1)
may-follow lines given awake cpus c tick bounds s choices.Tick all count ticks raises may other = ticks may.1
may-follow lines given awake cpus c tick bounds s (choices.Raise d line) all count ticks raises may other =
    (subst (λ (n : ℕ). d < n) (sym count) may.0.1, subst (λ (ls : List ℕ). has_line ls line ≡ true) (sym (raises may.1)) may.0.2)

pub all-paths : (lines given awake : List ℕ) (cpus : ℕ) (tick : Bool) (bounds : EventBounds) (paths : List Path) (path : Path) (steps : ℕ) (s : State) → HasAwake awake s → cpus ≡ length s.board.parts.processors
    → (MayHaveMore bounds.ticks s.board.parts.ticks → tick ≡ true) → (MayHaveMore bounds.raises (raise_count s.journal) → given ≡ lines)
    → HasForks paths path steps awake cpus given tick → AreAllPaths (MayCome lines bounds) paths path.turns.items path.cpu steps s
all-paths lines given awake cpus tick bounds paths path steps s all count ticks raises has choice may other =
    has choice (may-follow lines given awake cpus path.cpu tick bounds s choice all count ticks raises may other)

-- ---- the clock
calls-no-clock : (clock : Bound) (s : State) (event : Event) → CallsNoClock event s.board → CallsNone clock event s
calls-no-clock (AtMost most) s event calls = tt
calls-no-clock Free s event calls = calls

pub calls-none : (lines awake : List ℕ) (bounds : EventBounds) (s : State) → HasAwake awake s → ((i cpu : ℕ) → slice_get awake i ≡ Some cpu → CallsNone bounds.ticks (Step cpu) s) → (event : Event) → MayCome lines bounds s event → CallsNone bounds.ticks event s
calls-none lines awake bounds s all none (Step c) may = none (all c may).0 c (all c may).1
calls-none lines awake bounds s all none Tick may = calls-no-clock bounds.ticks s Tick refl
calls-none lines awake bounds s all none (Raise c line) may = calls-no-clock bounds.ticks s (Raise c line) refl
calls-none lines awake bounds s all none (Bell c line) may = absurd may
calls-none lines awake bounds s all none (Stop c) may = absurd may
calls-none lines awake bounds s all none (Go c) may = absurd may
calls-none lines awake bounds s all none (StepI c) may = absurd may
calls-none lines awake bounds s all none (SetReg c r value) may = absurd may
calls-none lines awake bounds s all none (SetPc c pc) may = absurd may
calls-none lines awake bounds s all none (Poke address bytes) may = absurd may
calls-none lines awake bounds s all none (Break address) may = absurd may
calls-none lines awake bounds s all none (Unbreak address) may = absurd may

-- ---- where nothing more can happen
pub over-none : (lines : List ℕ) (bounds : EventBounds) (s : State) (event : Event) → IsOver lines s → MayCome lines bounds s event → ⊥
over-none lines bounds s (Step c) over may = over.asleep c may
over-none lines bounds s Tick over may = may.0 over
over-none lines bounds s (Raise c line) over may = may.0.0 over
over-none lines bounds s (Bell c line) over may = may
over-none lines bounds s (Stop c) over may = may
over-none lines bounds s (Go c) over may = may
over-none lines bounds s (StepI c) over may = may
over-none lines bounds s (SetReg c r value) over may = may
over-none lines bounds s (SetPc c pc) over may = may
over-none lines bounds s (Poke address bytes) over may = may
over-none lines bounds s (Break address) over may = may
over-none lines bounds s (Unbreak address) over may = may

pub over-paths : (lines : List ℕ) (bounds : EventBounds) (paths : List Path) (path : Path) (steps : ℕ) (s : State) → IsOver lines s → AreAllPaths (MayCome lines bounds) paths path.turns.items path.cpu steps s
over-paths lines bounds paths path steps s over choice may other = absurd (over-none lines bounds s (event_of_choice choice) over may)

pub over-opened : (low high : ℕ) (lines : List ℕ) (bounds : EventBounds) (paths : List Path) (path : Path) (steps : ℕ) (s : State) → IsOver lines s → IsUndebugged s
    → IsOpened low high bounds (MayCome lines bounds) paths path.turns.items path.cpu steps s
over-opened low high lines bounds paths path steps s over clean = record {
  forks = over-paths lines bounds paths path steps s over;
  calls = λ event may. absurd (over-none lines bounds s event over may);
  spares = λ c t may acts. absurd (over-none lines bounds s (Step c) over may);
  undebugged = clean;
}

-- ---- processors that are awake
pub asleep : (awake : List ℕ) (s : State) → length awake ≡ 0 → HasAwake awake s → (c : ℕ) → IsAwake c s → ⊥
asleep [] s none all c is = let found = all c is in let bad : slice_get [] found.0 ≡ Some c = found.1 in cc
asleep (x ∷ xs) s none all c is = absurd (omega arith)

pub spares-awake : (low high : ℕ) (lines awake : List ℕ) (bounds : EventBounds) (s : State) → HasAwake awake s
    → ((i c t : ℕ) → slice_get awake i ≡ Some c → actor c s.board ≡ Some t → spares_text low high s.board.memory (slice_get s.board.parts.harts t) ≡ true) → SparesText low high (MayCome lines bounds) s
spares-awake low high lines awake bounds s all spared c t may acts = spared (all c may).0 c t (all c may).1 acts
