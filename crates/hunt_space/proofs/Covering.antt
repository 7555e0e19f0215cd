-- States that cover others: what may come, what fails and where an event leads are alike.
use Rattle.std.proofs.Common.{◌≡◌, ℕ, zero, suc, ◌+◌, ◌<◌, ◌≤◌, List, [], ◌∷◌, ◌++◌, Option, Some, None, Ok, Bool, true, false, length, refl, sym, ap, subst, ◌∙◌, arith}
use Rattle.std.specs.Prelude.{if◌then◌else◌, slice_get}
use Rattle.evm_model.specs.Good.{GoodState}
use Rattle.evm_model.specs.Ranks.{stamp_of}
use Rattle.evm_model.specs.declared.task.Task.{Task}
use Rattle.evm_model.specs.Event.{Event}
use Rattle.evm_model.specs.Refusals.{board_refusal, is_full}
use Rattle.evm_model.specs.Replay.{accept, apply, apply_unless}
use Rattle.evm_model.specs.Rows.{row}
use Rattle.evm_model.specs.State.{Board, State}
use Rattle.evm_model.specs.declared.event.Answer.{Answer}
use Rattle.evm_model.specs.declared.event.Event.TheVariants.{Step, Tick, Raise, Bell, Stop, Go, StepI, SetReg, SetPc, Poke, Break, Unbreak}
use Rattle.evm_model.specs.declared.refusal.Refusal.{Refusal}
use Rattle.evm_model.specs.declared.refusal.Refusal.TheVariants.{Full}
use Rattle.hunt_failures.specs.Failures.{FailsAsWanted}
use Rattle.hunt_failures.specs.declared.wanted.Wanted.{Wanted}
use Rattle.hunt_space.proofs.Failing.{failures_are_alike}
use Rattle.hunt_space.proofs.Making.{choices_are_alike}
use Rattle.law_runs.proofs.Alike.Reading.{task_count-same, ticks-same}
use Rattle.law_runs.proofs.Alike.Rows.{rows_keep_alike}
use Rattle.law_runs.proofs.Alike.TimelessLaws.{rows_keep_alike_timeless}
use Rattle.law_runs.specs.Alike.{AlikeBoards, StampsBelow}
use Rattle.law_runs.specs.Timeless.{AlikeTimeless, HasNoTimes, timeless_board}
use Rattle.hunt_schedules.specs.Making.{MayMake}
use Rattle.hunt_space.specs.Raises.{raise_count, raises_of}
use Rattle.hunt_space.specs.declared.bounds.Bound.{Bound}
use Rattle.hunt_space.specs.declared.bounds.Bound.TheVariants.{AtMost, Free}
use Rattle.hunt_space.specs.declared.bounds.EventBounds.{EventBounds}
use Rattle.hunt_space.proofs.Timeless.{fails-timeless, may-timeless}
use Rattle.hunt_space.specs.Runs.{MayHaveMore, MayCome}
use Rattle.hunt_space.specs.Space.{AreAlikeStates, CallsNone, FitsClock, RaisesNoMore}

missing : (tasks : List Task) (t : ℕ) → slice_get tasks t ≡ None → t < length tasks → ⊥
missing [] t there less = absurd (omega arith)
missing (x ∷ xs) zero there less = cc
missing (x ∷ xs) (suc t) there less = missing xs t there (omega arith)

stamp-of : (tasks : List Task) (stamps t : ℕ) (o : Option Task) → slice_get tasks t ≡ o → t < length tasks → ((task : Task) → o ≡ Some task → task.stamp < stamps) → stamp_of o < stamps
stamp-of tasks stamps t None there less below = absurd (missing tasks t there less)
stamp-of tasks stamps t (Some task) there less below = below task refl

pub stamps-below : (s : State) → GoodState s → StampsBelow s.board.parts
stamps-below s good t less = stamp-of s.board.parts.tasks s.board.parts.stamps t (slice_get s.board.parts.tasks t) refl less (good.good.stamps_below t)

boards-same : (a b : Board) → StampsBelow a.parts → a ≡ b → AlikeBoards a b
boards-same a b below e =
    let itself : AlikeBoards a a = record { memory = refl; breakpoints = refl; parts = record { same = refl; order = λ x y h k. refl; below = below; other_below = below } } in
    subst (λ (x : Board). AlikeBoards a x) e itself

boards-back : (a b : Board) → AlikeBoards a b → AlikeBoards b a
boards-back a b h = record {
  memory = sym h.memory;
  breakpoints = sym h.breakpoints;
  parts = record {
    same = sym h.parts.same;
    order = λ x y less less'. sym (h.parts.order x y (let n = task_count-same h.parts in omega arith) (let n = task_count-same h.parts in omega arith));
    below = h.parts.other_below;
    other_below = h.parts.below;
  };
}

boards-more : (a b c : Board) → AlikeBoards a b → AlikeBoards b c → AlikeBoards a c
boards-more a b c h g = record {
  memory = h.memory ∙ g.memory;
  breakpoints = h.breakpoints ∙ g.breakpoints;
  parts = record {
    same = h.parts.same ∙ g.parts.same;
    order = λ x y less less'. h.parts.order x y less less' ∙ g.parts.order x y (let n = task_count-same h.parts in omega arith) (let n = task_count-same h.parts in omega arith);
    below = h.parts.below;
    other_below = g.parts.other_below;
  };
}

-- states with the same board are alike
pub alike-same : (clock : Bound) (s t : State) → StampsBelow s.board.parts → FitsClock clock s → s.board ≡ t.board → AreAlikeStates clock s t
alike-same (AtMost most) s t below fits e = boards-same s.board t.board below e
alike-same Free s t below fits e = (
  boards-same (timeless_board s.board) (timeless_board t.board) below (ap timeless_board e),
  fits,
  subst (λ (b : Board). HasNoTimes b.parts) e fits,
)

pub alike-back : (clock : Bound) (s t : State) → AreAlikeStates clock s t → AreAlikeStates clock t s
alike-back (AtMost most) s t h = boards-back s.board t.board h
alike-back Free s t h = (boards-back (timeless_board s.board) (timeless_board t.board) h.0, h.2, h.1)

pub alike-more : (clock : Bound) (a b c : State) → AreAlikeStates clock a b → AreAlikeStates clock b c → AreAlikeStates clock a c
alike-more (AtMost most) a b c h g = boards-more a.board b.board c.board h g
alike-more Free a b c h g = (boards-more (timeless_board a.board) (timeless_board b.board) (timeless_board c.board) h.0 g.0, h.1, g.2)

-- ---- what an accepted event answers and leaves
accepted-by : (event : Event) (s after : State) (answer : Answer) (full : Bool) (why : Option Refusal) → apply_unless (if full then Some Full else why) event s ≡ Ok (after, answer)
    → accept event (row event s.board) s ≡ (after, answer)
accepted-by event s after answer true why h = cc
accepted-by event s after answer false (Some refusal) h = cc
accepted-by event s after answer false None h = cc

accepted : (event : Event) (s after : State) (answer : Answer) → apply s event ≡ Ok (after, answer) → accept event (row event s.board) s ≡ (after, answer)
unfolding apply
accepted event s after answer h = accepted-by event s after answer (is_full s) (board_refusal event s.board) h

pub row-board : (event : Event) (s after : State) (answer : Answer) → apply s event ≡ Ok (after, answer) → (row event s.board).0 ≡ after.board
row-board event s after answer h = ap (λ (p : State × Answer). p.0.board) (accepted event s after answer h)

pub row-answer : (event : Event) (s after : State) (answer : Answer) → apply s event ≡ Ok (after, answer) → (row event s.board).1 ≡ answer
row-answer event s after answer h = ap (λ (p : State × Answer). p.1) (accepted event s after answer h)

-- what holds of the boards behind an event holds of the boards of the states behind it
behind-rows : (P : Board → Board → Type 0) (event : Event) (s t after behind : State) (answer word : Answer) → apply s event ≡ Ok (after, answer) → apply t event ≡ Ok (behind, word)
    → P (row event s.board).0 (row event t.board).0 → P after.board behind.board
behind-rows P event s t after behind answer word done done' h =
    subst (λ (b : Board). P after.board b) (row-board event t behind word done') (subst (λ (b : Board). P b (row event t.board).0) (row-board event s after answer done) h)

same-answers : (event : Event) (s t after behind : State) (answer word : Answer) → apply s event ≡ Ok (after, answer) → apply t event ≡ Ok (behind, word)
    → (row event s.board).1 ≡ (row event t.board).1 → answer ≡ word
same-answers event s t after behind answer word done done' e = sym (row-answer event s after answer done) ∙ (e ∙ row-answer event t behind word done')

-- an event that both accept has one answer, and leads to states that are alike
pub alike-next : (clock : Bound) (event : Event) (s t after behind : State) (answer word : Answer) → AreAlikeStates clock s t → CallsNone clock event s → apply s event ≡ Ok (after, answer)
    → apply t event ≡ Ok (behind, word) → (answer ≡ word) × AreAlikeStates clock after behind
alike-next (AtMost most) event s t after behind answer word h calls done done' =
    let kept = rows_keep_alike event s.board t.board h in
    (same-answers event s t after behind answer word done done' kept.1, behind-rows (λ a b. AlikeBoards a b) event s t after behind answer word done done' kept.0)
alike-next Free event s t after behind answer word h calls done done' =
    let kept = rows_keep_alike_timeless event s.board t.board h.1 h.2 calls h.0 in (
      same-answers event s t after behind answer word done done' kept.1,
      (
        behind-rows (λ a b. AlikeTimeless a b) event s t after behind answer word done done' kept.0,
        behind-rows (λ a b. HasNoTimes a.parts) event s t after behind answer word done done' kept.2,
        behind-rows (λ a b. HasNoTimes b.parts) event s t after behind answer word done done' kept.3,
      ),
    )

-- ---- what may come, and what fails
may-make : (clock : Bound) (lines : List ℕ) (s t : State) (event : Event) → AreAlikeStates clock s t → MayMake lines s event → MayMake lines t event
may-make (AtMost most) lines s t event h may = choices_are_alike lines s t event h may
may-make Free lines s t event h may = may-timeless lines s t event h.0 may

may-tick : (clock : Bound) (s t : State) → AreAlikeStates clock s t → MayHaveMore clock s.board.parts.ticks → MayHaveMore clock t.board.parts.ticks
may-tick (AtMost most) s t h may = subst (λ (n : ℕ). n < most) (ticks-same h.parts) may
may-tick Free s t h may = tt

-- a state that has had no more raises has room for one where another has
may-raise : (bound : Bound) (s t : State) → RaisesNoMore bound t s → MayHaveMore bound (raise_count s.journal) → MayHaveMore bound (raise_count t.journal)
may-raise (AtMost most) s t fewer room = omega arith
may-raise Free s t fewer room = tt

pub may-come : (wanted : Wanted) (bounds : EventBounds) (s t : State) (event : Event) → AreAlikeStates bounds.ticks s t → RaisesNoMore bounds.raises t s → MayCome wanted.lines bounds s event → MayCome wanted.lines bounds t event
may-come wanted bounds s t (Step c) h fewer may = may-make bounds.ticks wanted.lines s t (Step c) h may
may-come wanted bounds s t Tick h fewer may = (may-make bounds.ticks wanted.lines s t Tick h may.0, may-tick bounds.ticks s t h may.1)
may-come wanted bounds s t (Raise c line) h fewer may = (may-make bounds.ticks wanted.lines s t (Raise c line) h may.0, may-raise bounds.raises s t fewer may.1)
may-come wanted bounds s t (Bell c line) h fewer may = absurd may
may-come wanted bounds s t (Stop c) h fewer may = absurd may
may-come wanted bounds s t (Go c) h fewer may = absurd may
may-come wanted bounds s t (StepI c) h fewer may = absurd may
may-come wanted bounds s t (SetReg c r value) h fewer may = absurd may
may-come wanted bounds s t (SetPc c pc) h fewer may = absurd may
may-come wanted bounds s t (Poke address bytes) h fewer may = absurd may
may-come wanted bounds s t (Break address) h fewer may = absurd may
may-come wanted bounds s t (Unbreak address) h fewer may = absurd may

-- ---- how many raises there were
count-behind : (events : List Event) (event : Event) → raise_count (events ++ event ∷ []) ≡ raise_count events + raises_of event
count-behind [] event = omega arith
count-behind (x ∷ xs) event = let h = count-behind xs event in omega arith

raised-next : (event : Event) (s after : State) (answer : Answer) → apply s event ≡ Ok (after, answer) → raise_count after.journal ≡ raise_count s.journal + raises_of event
raised-next event s after answer done =
    ap raise_count (ap (λ (p : State × Answer). p.0.journal) (sym (accepted event s after answer done))) ∙ count-behind s.journal event

pub raises-same : (bound : Bound) (s : State) → RaisesNoMore bound s s
raises-same (AtMost most) s = omega arith
raises-same Free s = tt

pub raises-more : (bound : Bound) (a b c : State) → RaisesNoMore bound a b → RaisesNoMore bound b c → RaisesNoMore bound a c
raises-more (AtMost most) a b c h g = omega arith
raises-more Free a b c h g = tt

-- an event that both accept raises as many lines
pub raises-next : (bound : Bound) (event : Event) (s t after behind : State) (answer word : Answer) → RaisesNoMore bound s t → apply s event ≡ Ok (after, answer) → apply t event ≡ Ok (behind, word) → RaisesNoMore bound after behind
raises-next (AtMost most) event s t after behind answer word h done done' =
    let e = raised-next event s after answer done in
    let f = raised-next event t behind word done' in
    omega arith
raises-next Free event s t after behind answer word h done done' = tt

-- a Step raises none
pub raises-still : (bound : Bound) (c : ℕ) (s after t : State) (answer : Answer) → RaisesNoMore bound s t → apply s (Step c) ≡ Ok (after, answer) → RaisesNoMore bound after t
raises-still (AtMost most) c s after t answer h done = let e = raised-next (Step c) s after answer done in omega arith
raises-still Free c s after t answer h done = tt

pub raises-behind : (bound : Bound) (c : ℕ) (s t behind : State) (word : Answer) → RaisesNoMore bound s t → apply t (Step c) ≡ Ok (behind, word) → RaisesNoMore bound s behind
raises-behind (AtMost most) c s t behind word h done = let e = raised-next (Step c) t behind word done in omega arith
raises-behind Free c s t behind word h done = tt

pub fails-alike : (clock : Bound) (wanted : Wanted) (s t after behind : State) (event : Event) (answer : Answer) → AreAlikeStates clock s t → AreAlikeStates clock after behind
    → FailsAsWanted wanted s event answer after → FailsAsWanted wanted t event answer behind
fails-alike (AtMost most) wanted s t after behind event answer h g fails = failures_are_alike wanted s after t behind event answer h g fails
fails-alike Free wanted s t after behind event answer h g fails = fails-timeless wanted s t after behind event answer h.0 g.0 fails
