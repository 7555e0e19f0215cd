use Rattle.std.proofs.Common.{◌≡◌, ℕ, List, Option, Some, None, Bool, true, false, slice_get, length, inl, inr, eq-eqb, refl}
use Rattle.std.specs.Prelude.{◌==◌, ◌&&◌}
use Rattle.std.proofs.lemmas.Bool.Decides.{eqb_tells}
use Rattle.std.proofs.lemmas.Option.{slice_get_within}
use Rattle.evm_model.specs.Ranks.{best, rank, stamp, is_oob_ready, may_run_oob, runs_oob_task}
use Rattle.evm_model.specs.declared.task.Task.{Task}
use Rattle.evm_model.specs.declared.task.TaskState.{TaskState}
use Rattle.evm_model.specs.declared.task.TaskState.TheVariants.{OobReady}
use Rattle.claims_machine.proofs.Leads.{leads}
use Rattle.claims_machine.proofs.parts.the_best_task_is_first.Goals as goal

is_ready : (state : TaskState) → is_oob_ready state ≡ true → state ≡ OobReady
is_ready OobReady h = refl
is_ready _ h = cc

both : (a b : Bool) → (a && b) ≡ true → (a ≡ true) × (b ≡ true)
both true true h = (refl, refl)
both true false h = cc
both false b h = cc

is_number : (a b : ℕ) → (a == b) ≡ true → a ≡ b
is_number a b e = elim (eqb_tells a b) [ inl same ↦ same.1 | inr differ ↦ cc ]

-- a task that may run out-of-band on a processor
record Runs (p : ℕ) (o : Option Task) : Type 0 where
  task : Task
  there : o ≡ Some task
  home : task.cpu ≡ p
  ready : task.state ≡ OobReady

runs : (p : ℕ) (o : Option Task) → runs_oob_task p o ≡ true → Runs p o
runs p None h = cc
runs p (Some task) h = let b = both (is_oob_ready task.state) (task.cpu == p) h in
    record { task = task; there = refl; home = is_number task.cpu p b.1; ready = is_ready task.state b.0 }

member : (p u : ℕ) (tasks : List Task) (task : Task) → slice_get tasks u ≡ Some task → task.cpu ≡ p → task.state ≡ OobReady → may_run_oob p tasks u ≡ true
member p u tasks task there home ready = let same : (task.cpu == p) ≡ true = eq-eqb task.cpu p home in rw (there, ready, same) refl

pub returns-clause-best : goal.returns-clause-best
unfolding best
returns-clause-best c p t mutexes tasks e =
    let found = (c.finds_first.ensures (may_run_oob p tasks) (rank mutexes tasks) (stamp tasks) (length tasks)).found t e in
    let r = runs p (slice_get tasks t) found.is_member in (
      r.task,
      (
        r.there,
        r.home,
        r.ready,
        λ u other there home ready.
            let behind = found.leads u (slice_get_within tasks u other there) (member p u tasks other there home ready) in
            let so = leads (rank mutexes tasks u) (stamp tasks u) (rank mutexes tasks t) (stamp tasks t) behind in
            rw (there, r.there) at so,
      ),
    )

pub returns-clause-none_ready : goal.returns-clause-none_ready
unfolding best
returns-clause-none_ready c p t mutexes tasks task e there home ready =
    let none = (c.finds_first.ensures (may_run_oob p tasks) (rank mutexes tasks) (stamp tasks) (length tasks)).none_found e t (slice_get_within tasks t task there) in
    let some = member p t tasks task there home ready in
    cc

pub returns-clause-only : goal.returns-clause-only
returns-clause-only c member rank stamp count t differ below is_member leads =
    (c.finds_first.ensures member rank stamp count).finds differ t (record { below = below; is_member = is_member; leads = leads })

pub returns-clause-none : goal.returns-clause-none
returns-clause-none c member rank stamp count none = (c.finds_first.ensures member rank stamp count).finds_none none

pub returns-clause-found : goal.returns-clause-found
returns-clause-found c member rank stamp count t e =
    let found = (c.finds_first.ensures member rank stamp count).found t e in (found.below, found.is_member, found.leads)

pub returns-clause-none_found : goal.returns-clause-none_found
returns-clause-none_found c member rank stamp count t e low = (c.finds_first.ensures member rank stamp count).none_found e t low
