-- A schedule may make the same events on two machines that are alike.
use Rattle.std.proofs.Common.{◌≡◌, ℕ, List, Option, Some, None, length, refl, ap, sym, ◌∙◌, inl, inr}
use Rattle.std.specs.Prelude.{slice_get}
use Rattle.evm_model.specs.Event.{Event}
use Rattle.evm_model.specs.State.{State}
use Rattle.evm_model.specs.declared.event.Event.TheVariants as events
use Rattle.evm_model.specs.declared.processor.Processor.{Processor}
use Rattle.evm_model.specs.declared.task.Task.{Task}
use Rattle.hunt_failures.specs.Awake.{HasReady, IsAwake, IsOver, is_done, is_ready_on}
use Rattle.hunt_space.specs.Alike.{ChoicesAreAlike}
use Rattle.hunt_schedules.specs.Making.{MayMake}
use Rattle.hunt_space.proofs.Failing.{current-same, pins-same, quiet-same, stopped-same}
use Rattle.hunt_space.proofs.Reading.{ReadsSame, count-tasks, read-task, reads-back, reads-same}

module _ (a b : State) (r : ReadsSame a.board b.board) where
  ready-same : (c : ℕ) → HasReady c a → HasReady c b
  ready-same c h = (h.0, sym (read-task a.board b.board r (is_ready_on c) h.0 (λ x. refl)) ∙ h.1)

  awake-same : (c : ℕ) → IsAwake c a → IsAwake c b
  awake-same c h = record {
    there = rw (← ap (λ (ps : List Processor). length ps) r.processors) h.there;
    runs = sym (stopped-same a b r c) ∙ h.runs;
    work = elim h.work [
      | inl runs ↦ inl (rw (← current-same a b r c) runs)
      | inr rest ↦ inr (elim rest [
        | inl wire ↦ inl (sym (quiet-same a b r c) ∙ wire)
        | inr ready ↦ inr (ready-same c ready)
      ])
    ];
  }

  done-of-same : (lines : List ℕ) (o : Option Task) → is_done lines a o ≡ is_done lines b o
  done-of-same lines None = refl
  done-of-same lines (Some task) = rw (r.timers, stopped-same a b r task.cpu) refl

  done-same : (lines : List ℕ) (t : ℕ) → is_done lines a (slice_get a.board.parts.tasks t) ≡ is_done lines b (slice_get b.board.parts.tasks t)
  done-same lines t =
      read-task a.board b.board r (is_done lines a) t (λ x. refl) ∙ done-of-same lines (slice_get b.board.parts.tasks t)

over-same : (a b : State) → ReadsSame a.board b.board → (lines : List ℕ) → IsOver lines a → IsOver lines b
over-same a b r lines h = record {
  asleep = λ c awake. h.asleep c (awake-same b a (reads-back a.board b.board r) c awake);
  done = λ t less. sym (done-same a b r lines t) ∙ h.done t (rw (count-tasks a.board b.board r) less);
  pins = sym (pins-same a b r) ∙ h.pins;
}

pub makes-same : (a b : State) → ReadsSame a.board b.board → (lines : List ℕ) (event : Event) → MayMake lines a event → MayMake lines b event
makes-same a b r lines (events.Step c) h = awake-same a b r c h
makes-same a b r lines events.Tick h = λ over. h (over-same b a (reads-back a.board b.board r) lines over)
makes-same a b r lines (events.Raise c line) h =
    (λ over. h.0 (over-same b a (reads-back a.board b.board r) lines over), rw (← ap (λ (ps : List Processor). length ps) r.processors) h.1, h.2)
makes-same a b r lines _ h = absurd h

pub choices_are_alike : ChoicesAreAlike
choices_are_alike lines s s' event h made = makes-same s s' (reads-same s.board s'.board h) lines event made
