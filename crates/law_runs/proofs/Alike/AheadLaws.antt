-- Rows of tasks that aren't ahead leave each task as many rows ahead as it was.
use Rattle.std.proofs.Common.{◌≡◌, ℕ, List, true, refl, sym, subst}
use Rattle.std.specs.Prelude.{slice_get}
use mathlib.Core.Path.{fun_ext}
use Rattle.evm_model.specs.Devices.{tick_devices}
use Rattle.evm_model.specs.Good.{IsOwn}
use Rattle.evm_model.specs.Rows.{row}
use Rattle.evm_model.specs.State.{Board, Memory}
use Rattle.evm_model.specs.declared.event.Event.TheVariants.{Step, Tick, Raise}
use Rattle.evm_model.specs.declared.task.Task.{Task}
use Rattle.law_runs.specs.Ahead.{BoardsAhead, text, SameText, StepsKeepAhead, TicksKeepAhead, RaisesKeepAhead, NoneIsAhead, ActorsAreSame, ActorsAreReady, has_ready_state}
use Rattle.law_runs.proofs.Alike.AheadPrivate.{acts}
use Rattle.law_runs.proofs.Alike.AheadRows.{actor-same, ahead_row-step, ahead_row-tick, ahead_row-raise}

-- the text of one memory, or of another that has the same
by_text : (low high : ℕ) (rows : ℕ → ℕ) (m n : Memory) (a b : Board) → SameText low high m n → BoardsAhead (record { code = text low high m; rows = rows }) a b → BoardsAhead (record { code = text low high n; rows = rows }) a b
by_text low high rows m n a b e s =
    let same : text low high n ≡ text low high m = fun_ext e in subst (λ code. BoardsAhead (record { code = code; rows = rows }) a b) (sym same) s

pub steps_keep_ahead : StepsKeepAhead
steps_keep_ahead low high rows c a b s z e =
    let done = ahead_row-step s c z in (by_text low high rows a.memory (row (Step c) a).0.memory (row (Step c) a).0 (row (Step c) b).0 e done.0, done.1)

pub actors_are_same : ActorsAreSame
actors_are_same low high rows c a b s = actor-same s c

own-ready : (c t : ℕ) (tasks : List Task) → IsOwn c t tasks → has_ready_state (slice_get tasks t) ≡ true
own-ready c t tasks o = rw o.there o.ready

pub actors_are_ready : ActorsAreReady
actors_are_ready c t b g e =
    let now = acts c t b e in
    own-ready c t b.parts.tasks ((g.settled c now.pipe now.processor now.there now.at).current_own t now.runs)

tick-text : (low high : ℕ) (a : Board) → SameText low high a.memory (row Tick a).0.memory
unfolding row tick_devices
tick-text low high a pc = refl

raise-text : (low high c line : ℕ) (a : Board) → SameText low high a.memory (row (Raise c line) a).0.memory
unfolding row
raise-text low high c line a pc = refl

pub ticks_keep_ahead : TicksKeepAhead
ticks_keep_ahead low high rows a b s = let done = ahead_row-tick s in (by_text low high rows a.memory (row Tick a).0.memory (row Tick a).0 (row Tick b).0 (tick-text low high a) done.0, done.1)

pub raises_keep_ahead : RaisesKeepAhead
raises_keep_ahead low high rows c line a b s =
    let done = ahead_row-raise s c line in (by_text low high rows a.memory (row (Raise c line) a).0.memory (row (Raise c line) a).0 (row (Raise c line) b).0 (raise-text low high c line a) done.0, done.1)

pub none_is_ahead : NoneIsAhead
none_is_ahead low high a e = record {
  memory = refl;
  breakpoints = refl;
  parts = record { same = refl; ahead = λ t. refl; ready = λ t n h. cc; count = e; other_count = e };
}
