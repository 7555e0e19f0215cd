-- What was seen of a machine holds of another that has other registers.
use Rattle.std.proofs.Common.{◌≡◌, inl, inr, ℕ, zero, suc, List, length, Bool, Option, Some, None, option_to_list, refl, sym, ap, subst, ◌∙◌}
use Rattle.std.specs.Prelude.{option_map, slice_get, OnOk, Result, Ok, Err}
use Rattle.std.proofs.lemmas.Bool.{cases_eq}
use Rattle.evm_exec.specs.declared.hart.Hart.{Hart}
use Rattle.evm_model.specs.Good.{GoodState}
use Rattle.evm_model.specs.State.{Board, Parts, State}
use Rattle.run_walk.proofs.Reaching.{within}
use Rattle.evm_model.specs.Pipes.{Pipe, raise}
use Rattle.evm_model.specs.Stages.{is_stalled, stalled_pipe}
use Rattle.evm_model.specs.declared.stage.Stage.{Stage}
use Rattle.evm_model.specs.declared.processor.Processor.{Processor}
use Rattle.evm_model.specs.declared.stage.Stage.TheVariants.{OutOfBand, InBand}
use Rattle.evm_model.specs.declared.task.Task.{Task}
use Rattle.run_marks.specs.Lists.{below}
use Rattle.run_marks.specs.Observations.{IsObservationOf, lane_at, lane_of, rank_at, rank_seen, running_of}
use Rattle.run_walk.specs.Quiet.{OnlyRuns}
use Rattle.run_walk.specs.Observers.{AreWaitingFor, IsObserverOf}
use Rattle.run_marks.specs.Tallies.{reach_of, IsWithinReach, OnlyRaises}
use Rattle.run_walk.specs.Walks.{IsApplied}
use Rattle.run_marks.specs.declared.observation.Observation.{Observation}
use Rattle.run_walk.specs.declared.observer.Observer.{Observer}
use Rattle.evm_model.specs.declared.event.Event.{Event as EventOf}

-- ---- what doesn't look at registers
same-running : (o : Option ℕ) (k : Parts) (harts : List Hart) → running_of o (record k { harts = harts }) ≡ running_of o k
same-running None k harts = refl
same-running (Some t) k harts = refl

same-lane : (o : Option Processor) (c : ℕ) (k : Parts) (harts : List Hart) → lane_of o c (record k { harts = harts }) ≡ lane_of o c k
same-lane None c k harts = refl
same-lane (Some p) c k harts =
    ap (λ r. Some (record { running = r; stopped = p.stopped; oob_stalled = is_stalled OutOfBand c k; in_band_stalled = is_stalled InBand c k })) (same-running p.current k harts)

same-rank : (o : Option Task) (t : ℕ) (k : Parts) (harts : List Hart) → rank_seen o t (record k { harts = harts }) ≡ rank_seen o t k
same-rank None t k harts = refl
same-rank (Some task) t k harts = refl

alike : {X : Type 0} (f g : ℕ → List X) (n : ℕ) → ((i : ℕ) → f i ≡ g i) → below f n ≡ below g n
unfolding below
alike f g zero h = refl
alike f g (suc n) h = rw (alike f g n h, h n) refl

other-harts : (observer : Observer) (k : Parts) (harts : List Hart) → IsObserverOf observer k → IsObserverOf observer (record k { harts = harts })
other-harts observer k harts is = record {
  observation = record {
    cpu_count = is.observation.cpu_count;
    task_count = is.observation.task_count;
    mutex_count = is.observation.mutex_count;
    lanes = is.observation.lanes ∙ sym (alike (λ c. option_to_list (lane_at (record k { harts = harts }) c)) (λ c. option_to_list (lane_at k c)) (length k.processors) (λ c. ap option_to_list (same-lane (slice_get k.processors c) c k harts)));
    tasks = is.observation.tasks;
    ranks = is.observation.ranks ∙ sym (alike (λ t. option_to_list (rank_at (record k { harts = harts }) t)) (λ t. option_to_list (rank_at k t)) (length k.tasks) (λ t. ap option_to_list (same-rank (slice_get k.tasks t) t k harts)));
    owners = is.observation.owners;
    ticks = is.observation.ticks;
    notices = is.observation.notices;
    last = is.observation.last;
  };
  tally = is.tally;
}

pub still-seen : (observer : Observer) (old new : Board) → OnlyRuns old new → IsObserverOf observer old.parts → IsObserverOf observer new.parts
still-seen observer old new runs is = subst (λ (k : Parts). IsObserverOf observer k) (sym runs.parts) (other-harts observer old.parts new.parts.harts is)

pub applied-within : (told : EventOf ℕ) (waiting : List ℕ) (old new : State) → GoodState old → AreWaitingFor told waiting old.board.parts → IsApplied told old new → IsWithinReach (reach_of told waiting) old.board.parts new.board.parts
applied-within told waiting old new good before is =
    subst (λ (e : EventOf ℕ). IsWithinReach (reach_of e waiting) old.board.parts new.board.parts) is.outlined
    (within is.event waiting old new is.answer good (subst (λ (e : EventOf ℕ). AreWaitingFor e waiting old.board.parts) (sym is.outlined) before) is.applied)

-- ---- what doesn't look at wires and counts
raised-stall : (stage : Stage) (l : ℕ) (o : Option Pipe) → stalled_pipe stage (option_map (raise l) o) ≡ stalled_pipe stage o
unfolding raise
raised-stall stage l None = refl
raised-stall OutOfBand l (Some p) = refl
raised-stall InBand l (Some p) = refl

stalls-stay : (c l : ℕ) (was now : Parts) → OnlyRaises c l was now → (stage : Stage) (d : ℕ) → is_stalled stage d now ≡ is_stalled stage d was
stalls-stay c l was now only stage d = elim (cases_eq d c) [
  | inl same ↦ ap (λ i. is_stalled stage i now) same ∙ ap (stalled_pipe stage) only.here ∙ raised-stall stage l (slice_get was.pipes c) ∙ ap (λ i. is_stalled stage i was) (sym same)
  | inr other ↦ ap (stalled_pipe stage) (only.others d other)
]

other-running : (o : Option ℕ) (k : Parts) (pipes : List Pipe) → running_of o (record k { pipes = pipes }) ≡ running_of o k
other-running None k pipes = refl
other-running (Some t) k pipes = refl

other-lane : (o : Option Processor) (d : ℕ) (k : Parts) (pipes : List Pipe) → ((stage : Stage) → is_stalled stage d (record k { pipes = pipes }) ≡ is_stalled stage d k) → lane_of o d (record k { pipes = pipes }) ≡ lane_of o d k
other-lane None d k pipes stalls = refl
other-lane (Some p) d k pipes stalls = rw (other-running p.current k pipes, stalls OutOfBand, stalls InBand) refl

other-rank : (o : Option Task) (t : ℕ) (k : Parts) (pipes : List Pipe) → rank_seen o t (record k { pipes = pipes }) ≡ rank_seen o t k
other-rank None t k pipes = refl
other-rank (Some task) t k pipes = refl

pub raised-seen : (observation : Observation) (c l : ℕ) (was now : Parts) → OnlyRaises c l was now → IsObservationOf observation was → IsObservationOf observation now
raised-seen observation c l was now only is =
    let later : Parts = record was { pipes = now.pipes } in
    let stalls : (stage : Stage) (d : ℕ) → is_stalled stage d later ≡ is_stalled stage d was = stalls-stay c l was now only in
    subst (λ (k : Parts). IsObservationOf observation k) (sym only.rest)
    (record {
      cpu_count = is.cpu_count;
      task_count = is.task_count;
      mutex_count = is.mutex_count;
      lanes = is.lanes ∙ sym (alike (λ d. option_to_list (lane_at later d)) (λ d. option_to_list (lane_at was d)) (length was.processors) (λ d. ap option_to_list (other-lane (slice_get was.processors d) d was now.pipes (λ stage. stalls stage d))));
      tasks = is.tasks;
      ranks = is.ranks ∙ sym (alike (λ t. option_to_list (rank_at later t)) (λ t. option_to_list (rank_at was t)) (length was.tasks) (λ t. ap option_to_list (other-rank (slice_get was.tasks t) t was now.pipes)));
      owners = is.owners;
      ticks = is.ticks;
      notices = is.notices;
      last = is.last;
    })

-- what follows from what holds where there is no error
pub then : {A E : Type 0} (P Q : Type 0) (r : Result A E) → (P → Q) → OnOk r P → OnOk r Q
then P Q (Ok a) f p = f p
then P Q (Err e) f p = p

-- two things that hold of what is returned
pub both : {A E : Type 0} (P Q : Type 0) (r : Result A E) → OnOk r P → OnOk r Q → OnOk r (P × Q)
both P Q (Ok a) p q = (p, q)
both P Q (Err e) p q = p
