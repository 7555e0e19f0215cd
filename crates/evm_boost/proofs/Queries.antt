-- What the schedule says is what the tasks and the mutexes say.
use Rattle.std.proofs.Common.{◌≡◌, ℕ, ◌<◌, List, [], ◌∷◌, Option, Some, None, true, length, refl, ap, sym, ◌∙◌, arith}
use Rattle.evm_boost.proofs.Lending.{first-waiting-is}
use Rattle.evm_boost.proofs.Settled.{settled-scheduled}
use Rattle.evm_boost.specs.Lent.{first_waiting}
use Rattle.evm_boost.specs.Scheduled.{Scheduled, IsScheduled}
use Rattle.evm_model.proofs.Relinks.{nobody-falls}
use Rattle.evm_model.specs.Mutexes.{boosts, heir_for, lock_at}
use Rattle.evm_model.specs.Ranks as ranks
use Rattle.evm_model.specs.Waits.{awaits}
use Rattle.evm_model.specs.declared.mutex.Mutex.{Mutex}
use Rattle.evm_model.specs.declared.task.Task.{Task}
use Rattle.evm_model.specs.declared.task.Wait.{Wait}
use Rattle.evm_model.specs.declared.limits.TheConstants.{TASK_LIMIT}
use Rattle.evm_model.proofs.Greatest.{greatest-none}
use Rattle.evm_model.specs.Boosts.{greatest}
use Rattle.evm_ready.proofs.Firsts.{first-same}
use Rattle.evm_ready.proofs.Placed.{best-placed, next-placed, any-placed}
use Rattle.evm_ready.specs.ListedRanks.{listed_rank}
use Rattle.evm_ready.specs.Oob.{has_oob}
use Rattle.evm_ready.specs.Places.{any_oob, entry, ready_place, runs_oob, runs_in_band, place_stamp}
use Rattle.evm_wait.specs.Waiters.{awaited}

pub best-is : (c : ℕ) (s : Scheduled) (mutexes : List Mutex) (tasks : List Task) → IsScheduled s mutexes tasks
    → ranks.first (λ t. runs_oob c (entry s.places t)) (listed_rank s.ranks) (λ t. place_stamp (entry s.places t)) (length s.places) ≡ ranks.best c mutexes tasks
unfolding ranks.best
best-is c s mutexes tasks is =
    rw is.entered.places
    (best-placed c (listed_rank s.ranks) tasks
    ∙ first-same (ranks.may_run_oob c tasks) (listed_rank s.ranks) (ranks.rank mutexes tasks) (ranks.stamp tasks) (length tasks) is.ranks)

pub next-is : (c : ℕ) (s : Scheduled) (mutexes : List Mutex) (tasks : List Task) → IsScheduled s mutexes tasks
    → ranks.first (λ t. runs_in_band c (entry s.places t)) (λ _. 0) (λ t. place_stamp (entry s.places t)) (length s.places) ≡ ranks.next_in_band c tasks
next-is c s mutexes tasks is = rw is.entered.places (next-placed c tasks)

pub any-is : (s : Scheduled) (mutexes : List Mutex) (tasks : List Task) → IsScheduled s mutexes tasks → any_oob s.places ≡ has_oob tasks
any-is s mutexes tasks is = rw is.entered.places (any-placed tasks)

pub waiter-is : (wait : Wait) (s : Scheduled) (mutexes : List Mutex) (tasks : List Task) → IsScheduled s mutexes tasks
    → first_waiting s wait ≡ ranks.first (awaits wait tasks) (ranks.rank mutexes tasks) (ranks.stamp tasks) (length tasks)
waiter-is wait s mutexes tasks is =
    first-waiting-is s tasks wait is.entered
    ∙ first-same (awaits wait tasks) (listed_rank s.ranks) (ranks.rank mutexes tasks) (ranks.stamp tasks) (length tasks) is.ranks

-- ---- the first task
no-heir : (o : Option ℕ) → heir_for [] o ≡ None
no-heir None = refl
no-heir (Some m) = refl

first-own : (task : Task) → ranks.own_rank [] (task ∷ []) 0 ≡ ranks.class_rank task.class task.priority
unfolding ranks.own_rank greatest
first-own task = refl

first-settled : (task : Task) (given : List ℕ) (t : ℕ) → given ≡ ranks.class_rank task.class task.priority ∷ [] → t < 1
    → listed_rank given t ≡ greatest (boosts [] (task ∷ [])) (listed_rank given) t (ranks.own_rank [] (task ∷ []) t) 1
first-settled task given t e less =
    let at : t ≡ 0 = omega (arith, less) in
    rw at
    (ap (λ (xs : List ℕ). listed_rank xs 0) e
    ∙ sym (first-own task)
    ∙ sym (greatest-none (boosts [] (task ∷ [])) (listed_rank given) 0 (ranks.own_rank [] (task ∷ []) 0) 1 (λ u to. let no : boosts [] (task ∷ []) u ≡ None = no-heir (lock_at (task ∷ []) u) in cc)))

pub first-scheduled : (s : Scheduled) (task : Task) → s.places ≡ ready_place task ∷ [] → s.waiters ≡ awaited task ∷ [] → s.ranks ≡ ranks.class_rank task.class task.priority ∷ [] → s.sound ≡ true
    → IsScheduled s [] (task ∷ [])
first-scheduled s task places waiters given sound =
    settled-scheduled s [] (task ∷ [])
    (record {
      entered = record { places = places; waiters = waiters; count = ap length given };
      sound = λ yes. record {
        height = nobody-falls (boosts [] (task ∷ [])) TASK_LIMIT (λ u. no-heir (lock_at (task ∷ []) u));
        inside = λ u t to. let no : boosts [] (task ∷ []) u ≡ None = no-heir (lock_at (task ∷ []) u) in cc;
      };
      settled = λ yes. record { settled = λ t less out. first-settled task s.ranks t given less };
    })
    sound
