use Rattle.std.proofs.Common.{◌≡◌, ◌≢◌, ℕ, List, Option, Some, None, true, slice_get, length, inl, inr, refl, ap, sym, ◌∙◌, eq-eqb}
use Rattle.std.specs.Prelude.{option_map}
use Rattle.std.proofs.lemmas.Option.{slice_get_within}
use Rattle.evm_exec.specs.declared.hart.Hart.{Hart}
use Rattle.evm_model.specs.Harts.{set_register}
use Rattle.evm_model.specs.Lists.{change}
use Rattle.evm_model.specs.Mutexes.{owner, owner_of, owns_any, held_by, freed}
use Rattle.evm_model.specs.Passing.{hand_over_to, hand_over}
use Rattle.evm_model.specs.Ranks.{rank, stamp}
use Rattle.evm_model.specs.State.{Parts}
use Rattle.evm_model.specs.Tasks.{restamp}
use Rattle.evm_model.specs.Waits.{is_wait_for, awaits_task, awaits, first_waiter, kept, kept_of, wake, woken as woken_task}
use Rattle.evm_model.specs.declared.mutex.Mutex.{Mutex}
use Rattle.evm_model.specs.declared.task.Task.{Task}
use Rattle.evm_model.specs.declared.task.TaskState.{TaskState}
use Rattle.evm_model.specs.declared.task.TaskState.TheVariants.{OobReady}
use Rattle.evm_model.specs.declared.task.Wait.TheVariants.{Lock, Reacquire}
use Rattle.evm_model.proofs.Lists.{change-here, change-elsewhere}
use Rattle.law_rules.proofs.Passing.{first-locked}
use Rattle.law_runs.proofs.Fares.{owner_oob, woke, woken_there}
use Rattle.claims_machine.specs.Waiting.{WaitsForMutex}
use Rattle.claims_machine.proofs.Leads.{leads}
use Rattle.claims_machine.proofs.Ranking.{IsLocked, locked}
use Rattle.claims_machine.proofs.mutexes.a_mutex_passes_to_the_first_waiter.Goals as goal

member_for : (m : ℕ) (state : TaskState) → WaitsForMutex state m → is_wait_for (Lock m) state ≡ true
member_for m state (inl on) = ap (is_wait_for (Lock m)) on ∙ eq-eqb m m refl
member_for m state (inr on) = ap (is_wait_for (Lock m)) on.1 ∙ eq-eqb m m refl

member : (m u : ℕ) (tasks : List Task) (other : Task) → slice_get tasks u ≡ Some other → WaitsForMutex other.state m → awaits (Lock m) tasks u ≡ true
member m u tasks other e on = ap (awaits_task (Lock m)) e ∙ member_for m other.state on

pub returns-clause-waits : goal.returns-clause-waits
unfolding first_waiter
returns-clause-waits c m t k e =
    let w : IsLocked k.tasks t m = locked k.tasks t m (first-locked m t k e).1 in
    let found = (c.finds_first.ensures (awaits (Lock m) k.tasks) (rank k.mutexes k.tasks) (stamp k.tasks) (length k.tasks)).found t e in (
      w.task,
      (
        w.there,
        w.on,
        λ u other there on.
            let behind = found.leads u (slice_get_within k.tasks u other there) (member m u k.tasks other there on) in
            let so = leads (rank k.mutexes k.tasks u) (stamp k.tasks u) (rank k.mutexes k.tasks t) (stamp k.tasks t) behind in
            rw (there, w.there) at so,
      ),
    )

pub returns-clause-none_waits : goal.returns-clause-none_waits
unfolding first_waiter
returns-clause-none_waits c m u k other e there on =
    let none = (c.finds_first.ensures (awaits (Lock m) k.tasks) (rank k.mutexes k.tasks) (stamp k.tasks) (length k.tasks)).none_found e u (slice_get_within k.tasks u other there) in
    let some = member m u k.tasks other there on in
    cc

-- an owner wakes out-of-band
wakes_oob : (m t : ℕ) (mutexes : List Mutex) (task : Task) → owner mutexes m ≡ Some t → WaitsForMutex task.state m → woken_task (owns_any t mutexes) task ≡ record task { state = OobReady; deadline = 0 }
wakes_oob m t mutexes task its (inl on) = woke (Lock m) (owns_any t mutexes) task on ∙ ap (λ (state : TaskState). record task { state = state; deadline = 0 }) (owner_oob m t mutexes task its)
wakes_oob m t mutexes task its (inr on) = woke (Reacquire m on.0) (owns_any t mutexes) task on.1 ∙ ap (λ (state : TaskState). record task { state = state; deadline = 0 }) (owner_oob m t mutexes task its)

passes : (m t : ℕ) (k : Parts) (mutex : Mutex) (task : Task) → slice_get k.mutexes m ≡ Some mutex → slice_get k.tasks t ≡ Some task → WaitsForMutex task.state m
    → (slice_get (hand_over_to (Some t) m k).mutexes m ≡ Some (held_by t 1 mutex)) × (slice_get (hand_over_to (Some t) m k).tasks t ≡ Some (record task { stamp = k.stamps; deadline = 0; state = OobReady }))
unfolding wake restamp
passes m t k mutex task e there on =
    let given : List Mutex = change (held_by t 1) k.mutexes m in
    let its : slice_get given m ≡ Some (held_by t 1 mutex) = change-here (held_by t 1) k.mutexes m ∙ ap (option_map (held_by t 1)) e in (
      its,
      woken_there t (owns_any t given) task (record task { state = OobReady; deadline = 0 }) k.stamps k.tasks there (wakes_oob m t given task (ap owner_of its) on),
    )

pub returns-clause-passes : goal.returns-clause-passes
unfolding hand_over
returns-clause-passes c m t k mutex task e there on =
    let w : IsLocked k.tasks t m = locked k.tasks t m (first-locked m t k e).1 in
    let two : Some w.task ≡ Some task = sym w.there ∙ on in
    let same : w.task ≡ task = cc in
    rw e (passes m t k mutex task there on (rw (← same) w.on))

pub returns-clause-frees : goal.returns-clause-frees
unfolding hand_over
returns-clause-frees c m k mutex e there = rw e (change-here freed k.mutexes m ∙ ap (option_map freed) there, refl)

-- ---- what it leaves
answered : (m t answer : ℕ) (k : Parts) (hart : Hart) (task : Task) → slice_get k.harts t ≡ Some hart → slice_get k.tasks t ≡ Some task → kept task.state ≡ answer
    → slice_get (hand_over_to (Some t) m k).harts t ≡ Some (set_register 10 answer hart)
unfolding wake restamp
answered m t answer k hart task e there keeps =
    let value : ℕ = kept_of (slice_get k.tasks t) in
    let same : value ≡ answer = ap kept_of there ∙ keeps in
    change-here (set_register 10 value) k.harts t ∙ ap (option_map (set_register 10 value)) e ∙ ap (λ (n : ℕ). Some (set_register 10 n hart)) same

pub returns-clause-answers : goal.returns-clause-answers
unfolding hand_over
returns-clause-answers c m t k hart task e there at on = rw e (answered m t 0 k hart task there at (ap kept on))

pub returns-clause-keeps : goal.returns-clause-keeps
unfolding hand_over
returns-clause-keeps c m t answer k hart task e there at on = rw e (answered m t answer k hart task there at (ap kept on))

left : (m u : ℕ) (k : Parts) (o : Option ℕ) → o ≢ Some u → (slice_get (hand_over_to o m k).tasks u ≡ slice_get k.tasks u) × (slice_get (hand_over_to o m k).harts u ≡ slice_get k.harts u)
unfolding wake restamp
left m u k None other = (refl, refl)
left m u k (Some t) other =
    let away : u ≢ t = λ same. other (ap Some (sym same)) in
    let given : List Mutex = change (held_by t 1) k.mutexes m in (
      change-elsewhere (λ (x : Task). record x { stamp = k.stamps }) (change (woken_task (owns_any t given)) k.tasks t) t u away ∙ change-elsewhere (woken_task (owns_any t given)) k.tasks t u away,
      change-elsewhere (set_register 10 (kept_of (slice_get k.tasks t))) k.harts t u away,
    )

pub returns-clause-other_tasks : goal.returns-clause-other_tasks
unfolding hand_over
returns-clause-other_tasks c m u k other = left m u k (first_waiter (Lock m) k) other

others : (m n : ℕ) (k : Parts) (o : Option ℕ) → n ≢ m → slice_get (hand_over_to o m k).mutexes n ≡ slice_get k.mutexes n
unfolding wake restamp
others m n k None other = change-elsewhere freed k.mutexes m n other
others m n k (Some t) other = change-elsewhere (held_by t 1) k.mutexes m n other

pub returns-clause-other_mutexes : goal.returns-clause-other_mutexes
unfolding hand_over
returns-clause-other_mutexes c m n k other = others m n k (first_waiter (Lock m) k) other

rests : (m : ℕ) (k : Parts) (o : Option ℕ) → hand_over_to o m k ≡ record k { harts = (hand_over_to o m k).harts; tasks = (hand_over_to o m k).tasks; mutexes = (hand_over_to o m k).mutexes; stamps = (hand_over_to o m k).stamps }
unfolding wake restamp
rests m k None = refl
rests m k (Some t) = refl

pub returns-clause-rest : goal.returns-clause-rest
unfolding hand_over
returns-clause-rest c m k = rests m k (first_waiter (Lock m) k)
