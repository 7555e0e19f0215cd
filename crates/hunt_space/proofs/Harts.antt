-- A machine with other harts: where tasks are ahead, boards differ in harts alone.
use Rattle.std.proofs.Common.{◌≡◌, ℕ, List, Option, Some, None, refl, sym}
use Rattle.evm_exec.specs.declared.hart.Hart.{Hart}
use Rattle.evm_model.specs.Event.{Event}
use Rattle.evm_model.specs.State.{Board, State}
use Rattle.evm_model.specs.declared.event.Event.TheVariants.{Step, Tick, Raise, Bell, Stop, Go, StepI, SetReg, SetPc, Poke, Break, Unbreak}
use Rattle.evm_model.specs.declared.task.Task.{Task}
use Rattle.hunt_failures.specs.Awake.{IsAwake, IsOver, is_done}
use Rattle.law_runs.specs.Ahead.{BoardsAhead, HeadStart}
use Rattle.hunt_space.specs.Runs.{MayCome}
use Rattle.hunt_space.specs.Space.{RaisesNoMore}
use Rattle.hunt_space.specs.declared.bounds.Bound.{Bound}
use Rattle.hunt_space.specs.declared.bounds.Bound.TheVariants.{AtMost, Free}
use Rattle.hunt_space.specs.declared.bounds.EventBounds.{EventBounds}

abbrev pub hart_board : List Hart → Board → Board
hart_board harts b = record b { parts = record b.parts { harts = harts } }

abbrev pub with_harts : List Hart → State → State
with_harts harts s = record s { board = hart_board harts s.board }

pub ahead-harts : (lead : HeadStart) (a b : Board) → BoardsAhead lead a b → b ≡ hart_board b.parts.harts a
ahead-harts lead a b s =
    let there : hart_board b.parts.harts a ≡ b = λ i. record { memory = s.memory i; breakpoints = s.breakpoints i; parts = record (s.parts.same i) { harts = b.parts.harts } } in sym there

-- ---- which events may come
awake-harts : (c : ℕ) (s : State) (harts : List Hart) → IsAwake c s → IsAwake c (with_harts harts s)
awake-harts c s harts h = record { there = h.there; runs = h.runs; work = h.work }

done-harts : (lines : List ℕ) (s : State) (harts : List Hart) (o : Option Task) → is_done lines s o ≡ is_done lines (with_harts harts s) o
done-harts lines s harts None = refl
done-harts lines s harts (Some task) = refl

over-harts : (lines : List ℕ) (s : State) (harts : List Hart) → IsOver lines (with_harts harts s) → IsOver lines s
over-harts lines s harts h = record {
  asleep = λ c awake. h.asleep c (awake-harts c s harts awake);
  done = λ t less. rw (done-harts lines s harts) (h.done t less);
  pins = h.pins;
}

pub may-harts : (lines : List ℕ) (bounds : EventBounds) (s : State) (harts : List Hart) (event : Event) → MayCome lines bounds s event → MayCome lines bounds (with_harts harts s) event
may-harts lines bounds s harts (Step c) may = awake-harts c s harts may
may-harts lines bounds s harts Tick may = ((λ over. may.0 (over-harts lines s harts over)), may.1)
may-harts lines bounds s harts (Raise c line) may = (((λ over. may.0.0 (over-harts lines s harts over)), may.0.1, may.0.2), may.1)
may-harts lines bounds s harts (Bell c line) may = absurd may
may-harts lines bounds s harts (Stop c) may = absurd may
may-harts lines bounds s harts (Go c) may = absurd may
may-harts lines bounds s harts (StepI c) may = absurd may
may-harts lines bounds s harts (SetReg c r value) may = absurd may
may-harts lines bounds s harts (SetPc c pc) may = absurd may
may-harts lines bounds s harts (Poke address bytes) may = absurd may
may-harts lines bounds s harts (Break address) may = absurd may
may-harts lines bounds s harts (Unbreak address) may = absurd may

-- other harts raise no line
pub raises-harts : (bound : Bound) (s t : State) (harts : List Hart) → RaisesNoMore bound s t → RaisesNoMore bound s (with_harts harts t)
raises-harts (AtMost most) s t harts h = h
raises-harts Free s t harts h = tt
