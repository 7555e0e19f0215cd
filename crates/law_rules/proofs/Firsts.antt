-- Which task the first of a stage is: it is ready there, and none is where there is no first.
use Rattle.std.proofs.Common.{◌≡◌, ℕ, zero, suc, ◌<◌, List, Bool, true, false, ◌&&◌, Option, Some, None, length, refl, ap, sym, ◌∙◌, inl, inr, arith, eq-eqb}
use Rattle.std.proofs.lemmas.Bool.Decides.{eqb_tells}
use Rattle.std.proofs.Math.Nat.{eq-or-lt_of_le}
use Rattle.std.specs.Prelude.{slice_get, ◌==◌, if◌then◌else◌}
use Rattle.evm_model.proofs.Lists.{slice_get-below}
use Rattle.evm_model.specs.Good.{IsOneOf, IsOwn, is_ready}
use Rattle.evm_model.specs.Ranks.{best, next_in_band, first, leader, may_run_oob, runs_oob_task, may_run_in_band, runs_in_band_task, rank, stamp, is_oob_ready, is_in_ready}
use Rattle.evm_model.specs.Settle.{is_oob, is_oob_task}
use Rattle.evm_model.specs.declared.mutex.Mutex.{Mutex}
use Rattle.evm_model.specs.declared.task.Task.{Task}
use Rattle.evm_model.specs.declared.task.TaskState.{TaskState}
use Rattle.evm_model.specs.declared.task.TaskState.TheVariants.{InReady, OobReady}
pub use Rattle.law_rules.proofs.Waiters.{first-member}

pub both : (a b : Bool) → (a && b) ≡ true → (a ≡ true) × (b ≡ true)
both true b h = (refl, h)
both false b h = cc

pub eqb-is : (a b : ℕ) → (a == b) ≡ true → a ≡ b
eqb-is a b e = elim (eqb_tells a b) [ inl g ↦ g.1 | inr g ↦ cc ]

none-step : (m : ℕ → Bool) (r s : ℕ → ℕ) (n : ℕ) (o : Option ℕ) (b : Bool) → m n ≡ b → (if b then Some (leader r s o n) else o) ≡ None → (m n ≡ false) × (o ≡ None)
none-step m r s n o true at e = cc
none-step m r s n o false at e = (at, e)

pub first-none : (m : ℕ → Bool) (r s : ℕ → ℕ) (n t : ℕ) → first m r s n ≡ None → t < n → m t ≡ false
unfolding first
first-none m r s zero t e h = absurd (omega arith)
first-none m r s (suc n) t e h =
    let both = none-step m r s n (first m r s n) (m n) refl e in
    elim (eq-or-lt_of_le {n = t} {m = n} (omega arith)) [
      | inl at ↦ ap m at ∙ both.0
      | inr less ↦ first-none m r s n t both.1 less
    ]

-- ---- out-of-band
abbrev pub IsOobOwn : ℕ → ℕ → List Task → Type 0
IsOobOwn c t tasks = IsOneOf is_oob_ready c t tasks

pub oob-ready : (s : TaskState) → is_oob_ready s ≡ true → is_ready s ≡ true
oob-ready OobReady e = refl
oob-ready _ e = cc

pub in_band-ready : (s : TaskState) → is_in_ready s ≡ true → is_ready s ≡ true
in_band-ready InReady e = refl
in_band-ready _ e = cc

oob-own : (c t : ℕ) (tasks : List Task) (o : Option Task) → slice_get tasks t ≡ o → runs_oob_task c o ≡ true → IsOobOwn c t tasks
oob-own c t tasks None e h = cc
oob-own c t tasks (Some task) e h = let b = both (is_oob_ready task.state) (task.cpu == c) h in record { task = task; there = e; at_home = eqb-is task.cpu c b.1; ready = b.0 }

-- the best task is out-of-band ready, and the processor's own
pub best-own : (c t : ℕ) (mutexes : List Mutex) (tasks : List Task) → best c mutexes tasks ≡ Some t → IsOobOwn c t tasks
unfolding best
best-own c t mutexes tasks e = oob-own c t tasks (slice_get tasks t) refl (first-member (may_run_oob c tasks) (rank mutexes tasks) (stamp tasks) (length tasks) t e).1

pub own-is_oob : (c t : ℕ) (tasks : List Task) → IsOobOwn c t tasks → is_oob (Some t) tasks ≡ true
own-is_oob c t tasks o = rw o.there o.ready

pub own-live : (c t : ℕ) (tasks : List Task) → IsOobOwn c t tasks → IsOwn c t tasks
own-live c t tasks o = record { task = o.task; there = o.there; at_home = o.at_home; ready = oob-ready o.task.state o.ready }

pub best-is_oob : (c t : ℕ) (mutexes : List Mutex) (tasks : List Task) → best c mutexes tasks ≡ Some t → is_oob (Some t) tasks ≡ true
best-is_oob c t mutexes tasks e = own-is_oob c t tasks (best-own c t mutexes tasks e)

both_true : (a b : Bool) → a ≡ true → b ≡ true → (a && b) ≡ true
both_true true true h k = refl
both_true true false h k = k
both_true false b h k = h

not_oob : (c : ℕ) (o : Option Task) (task : Task) → o ≡ Some task → task.cpu ≡ c → runs_oob_task c o ≡ false → is_oob_task o ≡ false
not_oob c None task e h n = cc
not_oob c (Some x) task e h n =
    elim (is_oob_ready x.state) as (λ b. is_oob_ready x.state ≡ b → b ≡ false) [
      | true ↦ λ q. let same : x ≡ task = cc in let yes = both_true (is_oob_ready x.state) (x.cpu == c) q (eq-eqb x.cpu c (rw same h)) in sym yes ∙ n
      | false ↦ λ q. refl
    ] refl

pub own-in_band : (c t : ℕ) (tasks : List Task) → IsOneOf is_in_ready c t tasks → IsOwn c t tasks
own-in_band c t tasks o = record { task = o.task; there = o.there; at_home = o.at_home; ready = in_band-ready o.task.state o.ready }

-- where there is no best task no own one is out-of-band ready
pub no_best : (c t : ℕ) (mutexes : List Mutex) (tasks : List Task) → best c mutexes tasks ≡ None → IsOwn c t tasks → is_oob (Some t) tasks ≡ false
unfolding best
no_best c t mutexes tasks e o =
    not_oob c (slice_get tasks t) o.task o.there o.at_home
    (first-none (may_run_oob c tasks) (rank mutexes tasks) (stamp tasks) (length tasks) t e (slice_get-below tasks t o.task o.there))

-- ---- in-band
in_band-own : (c t : ℕ) (tasks : List Task) (o : Option Task) → slice_get tasks t ≡ o → runs_in_band_task c o ≡ true → IsOneOf is_in_ready c t tasks
in_band-own c t tasks None e h = cc
in_band-own c t tasks (Some task) e h =
    let b = both (is_in_ready task.state) (task.cpu == c) h in
    record { task = task; there = e; at_home = eqb-is task.cpu c b.1; ready = b.0 }

-- the task to take up is the processor's own
pub next-own : (c t : ℕ) (tasks : List Task) → next_in_band c tasks ≡ Some t → IsOneOf is_in_ready c t tasks
unfolding next_in_band
next-own c t tasks e = in_band-own c t tasks (slice_get tasks t) refl (first-member (may_run_in_band c tasks) (λ _. 0) (stamp tasks) (length tasks) t e).1
