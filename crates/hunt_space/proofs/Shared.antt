-- What two machines that are alike have in common, and what an event makes of both.
use Rattle.std.proofs.Common.{◌≡◌, ℕ, List, Option, Some, None, refl, sym, ap, subst, ◌∙◌, inl, inr}
use Rattle.std.specs.Prelude.{slice_get}
use Rattle.evm_model.specs.Event.{Event}
use Rattle.evm_model.specs.Pipes.{Pipe}
use Rattle.evm_model.specs.Rows.{row}
use Rattle.evm_model.specs.State.{Board, State}
use Rattle.evm_model.specs.declared.event.Answer.{Answer}
use Rattle.evm_model.specs.declared.processor.Processor.{Processor}
use Rattle.hunt_failures.specs.Failures.{is_in_band_task, is_out_of_band}
use Rattle.hunt_failures.specs.declared.wanted.Wanted.{Wanted}
use Rattle.law_runs.proofs.Alike.Rows.{rows_keep_alike}
use Rattle.law_runs.proofs.Alike.TimelessLaws.{rows_keep_alike_timeless}
use Rattle.law_runs.specs.Ahead.{actor, actor_among}
use Rattle.law_runs.specs.Alike.{AlikeBoards, uncounted}
use Rattle.law_runs.specs.Timeless.{AlikeTimeless, HasNoTimes}
use Rattle.hunt_space.proofs.Covering.{fails-alike}
use Rattle.hunt_space.proofs.Failing.{current-same}
use Rattle.hunt_space.proofs.Reading.{ReadsSame, read-pipe, read-task, reads-same, reads-timeless}
use Rattle.hunt_space.specs.Demoting.{FailsOrDemotes, IsDemotedByLine}
use Rattle.hunt_space.specs.Space.{AreAlikeStates, CallsNone}
use Rattle.hunt_space.specs.declared.bounds.Bound.{Bound}
use Rattle.hunt_space.specs.declared.bounds.Bound.TheVariants.{AtMost, Free}

pub reads-alike : (clock : Bound) (s t : State) → AreAlikeStates clock s t → ReadsSame s.board t.board
reads-alike (AtMost most) s t h = reads-same s.board t.board h
reads-alike Free s t h = reads-timeless s.board t.board h.0

pub breakpoints-alike : (clock : Bound) (s t : State) → AreAlikeStates clock s t → s.board.breakpoints ≡ t.board.breakpoints
breakpoints-alike (AtMost most) s t h = h.breakpoints
breakpoints-alike Free s t h = h.0.breakpoints

-- whose instruction comes
actor-blind : (o : Option Processor) (pipe : Pipe) → actor_among o (Some (uncounted pipe)) ≡ actor_among o (Some pipe)
actor-blind None pipe = refl
actor-blind (Some p) pipe = refl

pub actor-alike : (a b : Board) → ReadsSame a b → (c : ℕ) → actor c a ≡ actor c b
actor-alike a b r c =
    ap (λ (ps : List Processor). actor_among (slice_get ps c) (slice_get a.parts.pipes c)) r.processors
    ∙ read-pipe a b r (actor_among (slice_get b.parts.processors c)) c (actor-blind (slice_get b.parts.processors c))

-- ---- states with the same boards
pub alike-boards : (clock : Bound) (s s' t t' : State) → s.board ≡ s'.board → t.board ≡ t'.board → AreAlikeStates clock s t → AreAlikeStates clock s' t'
alike-boards (AtMost most) s s' t t' e f h = subst (λ (b : Board). AlikeBoards s'.board b) f (subst (λ (b : Board). AlikeBoards b t.board) e h)
alike-boards Free s s' t t' e f h = (
  subst (λ (b : Board). AlikeTimeless s'.board b) f (subst (λ (b : Board). AlikeTimeless b t.board) e h.0),
  subst (λ (b : Board). HasNoTimes b.parts) e h.1,
  subst (λ (b : Board). HasNoTimes b.parts) f h.2,
)

abbrev pub with_board : Board → State → State
with_board b s = record s { board = b }

-- an event does alike to both, whether or not a journal takes it
pub alike-row : (clock : Bound) (event : Event) (s t : State) → AreAlikeStates clock s t → CallsNone clock event s
    → ((row event s.board).1 ≡ (row event t.board).1) × AreAlikeStates clock (with_board (row event s.board).0 s) (with_board (row event t.board).0 t)
alike-row (AtMost most) event s t h calls = let kept = rows_keep_alike event s.board t.board h in (kept.1, kept.0)
alike-row Free event s t h calls =
    let kept = rows_keep_alike_timeless event s.board t.board h.1 h.2 calls h.0 in (kept.1, (kept.0, kept.2, kept.3))

-- ---- what fails
demotes-alike : (t : ℕ) (before after before' after' : State) (event : Event) → ReadsSame before.board before'.board → ReadsSame after.board after'.board → IsDemotedByLine t before event after → IsDemotedByLine t before' event after'
demotes-alike t before after before' after' event r q h = record {
  cpu = h.cpu;
  steps = h.steps;
  runs = sym (current-same before before' r h.cpu) ∙ h.runs;
  does_none = sym (actor-alike before.board before'.board r h.cpu) ∙ h.does_none;
  was_out_of_band = sym (read-task before.board before'.board r is_out_of_band t (λ x. refl)) ∙ h.was_out_of_band;
  is_in_band = sym (read-task after.board after'.board q is_in_band_task t (λ x. refl)) ∙ h.is_in_band;
}

pub demotes-or-fails : (high : ℕ) (clock : Bound) (wanted : Wanted) (s t after behind : State) (event : Event) (answer : Answer) → AreAlikeStates clock s t → AreAlikeStates clock after behind
    → FailsOrDemotes high wanted s event answer after → FailsOrDemotes high wanted t event answer behind
demotes-or-fails high clock wanted s t after behind event answer h g (inl fails) = inl (fails-alike clock wanted s t after behind event answer h g fails)
demotes-or-fails high clock wanted s t after behind event answer h g (inr demotes) =
    inr (demotes.0, demotes.1, demotes.2, demotes-alike demotes.2 s after t behind event (reads-alike clock s t h) (reads-alike clock after behind g) demotes.3)
