-- What the entries of tasks say is what their tasks say.
use Rattle.std.proofs.Common.{◌≡◌, ℕ, zero, suc, List, [], ◌∷◌, Bool, true, length, refl, ap, ◌∙◌}
use Rattle.std.specs.Prelude.{map, ◌==◌, ◌&&◌, ◌||◌}
use Rattle.std.proofs.lemmas.List.{length-map}
use Rattle.evm_model.specs.Ranks as ranks
use Rattle.evm_model.specs.declared.task.Task.{Task}
use Rattle.evm_model.specs.declared.task.TaskState.{TaskState}
use Rattle.evm_model.specs.declared.task.TaskState.TheVariants.{InReady, OobReady, Waits, Exit, Faulted}
use Rattle.evm_ready.specs.Oob.{has_oob}
use Rattle.evm_ready.proofs.Firsts.{first-agree}
use Rattle.evm_ready.specs.Places.{ready_place, placed_in, any_oob, entry, is_oob_place, runs_oob, runs_in_band, place_stamp}

-- ---- one task
oob-in : (state : TaskState) (cpu stamp c : ℕ) → runs_oob c (placed_in state cpu stamp) ≡ (ranks.is_oob_ready state && cpu == c)
oob-in InReady cpu stamp c = refl
oob-in OobReady cpu stamp c = refl
oob-in (Waits wait) cpu stamp c = refl
oob-in Exit cpu stamp c = refl
oob-in (Faulted fault) cpu stamp c = refl

in_band-in : (state : TaskState) (cpu stamp c : ℕ) → runs_in_band c (placed_in state cpu stamp) ≡ (ranks.is_in_ready state && cpu == c)
in_band-in InReady cpu stamp c = refl
in_band-in OobReady cpu stamp c = refl
in_band-in (Waits wait) cpu stamp c = refl
in_band-in Exit cpu stamp c = refl
in_band-in (Faulted fault) cpu stamp c = refl

any-in : (state : TaskState) (cpu stamp : ℕ) → is_oob_place (placed_in state cpu stamp) ≡ ranks.is_oob_ready state
any-in InReady cpu stamp = refl
any-in OobReady cpu stamp = refl
any-in (Waits wait) cpu stamp = refl
any-in Exit cpu stamp = refl
any-in (Faulted fault) cpu stamp = refl

oob_stamp-in : (state : TaskState) (cpu stamp c : ℕ) → runs_oob c (placed_in state cpu stamp) ≡ true → place_stamp (placed_in state cpu stamp) ≡ stamp
oob_stamp-in InReady cpu stamp c e = refl
oob_stamp-in OobReady cpu stamp c e = refl
oob_stamp-in (Waits wait) cpu stamp c e = cc
oob_stamp-in Exit cpu stamp c e = cc
oob_stamp-in (Faulted fault) cpu stamp c e = cc

in_band_stamp-in : (state : TaskState) (cpu stamp c : ℕ) → runs_in_band c (placed_in state cpu stamp) ≡ true → place_stamp (placed_in state cpu stamp) ≡ stamp
in_band_stamp-in InReady cpu stamp c e = refl
in_band_stamp-in OobReady cpu stamp c e = refl
in_band_stamp-in (Waits wait) cpu stamp c e = cc
in_band_stamp-in Exit cpu stamp c e = cc
in_band_stamp-in (Faulted fault) cpu stamp c e = cc

-- ---- by number
oob-at : (tasks : List Task) (c t : ℕ) → runs_oob c (entry (map ready_place tasks) t) ≡ ranks.may_run_oob c tasks t
oob-at [] c t = refl
oob-at (task ∷ tasks) c zero = oob-in task.state task.cpu task.stamp c
oob-at (task ∷ tasks) c (suc t) = oob-at tasks c t

oob_stamp-at : (tasks : List Task) (c t : ℕ) → runs_oob c (entry (map ready_place tasks) t) ≡ true → place_stamp (entry (map ready_place tasks) t) ≡ ranks.stamp tasks t
oob_stamp-at [] c t e = refl
oob_stamp-at (task ∷ tasks) c zero e = oob_stamp-in task.state task.cpu task.stamp c e
oob_stamp-at (task ∷ tasks) c (suc t) e = oob_stamp-at tasks c t e

in_band-at : (tasks : List Task) (c t : ℕ) → runs_in_band c (entry (map ready_place tasks) t) ≡ ranks.may_run_in_band c tasks t
in_band-at [] c t = refl
in_band-at (task ∷ tasks) c zero = in_band-in task.state task.cpu task.stamp c
in_band-at (task ∷ tasks) c (suc t) = in_band-at tasks c t

in_band_stamp-at : (tasks : List Task) (c t : ℕ) → runs_in_band c (entry (map ready_place tasks) t) ≡ true → place_stamp (entry (map ready_place tasks) t) ≡ ranks.stamp tasks t
in_band_stamp-at [] c t e = refl
in_band_stamp-at (task ∷ tasks) c zero e = in_band_stamp-in task.state task.cpu task.stamp c e
in_band_stamp-at (task ∷ tasks) c (suc t) e = in_band_stamp-at tasks c t e

-- ---- the first of them
pub best-placed : (c : ℕ) (rank : ℕ → ℕ) (tasks : List Task)
    → ranks.first (λ t. runs_oob c (entry (map ready_place tasks) t)) rank (λ t. place_stamp (entry (map ready_place tasks) t)) (length (map ready_place tasks))
    ≡ ranks.first (ranks.may_run_oob c tasks) rank (ranks.stamp tasks) (length tasks)
best-placed c rank tasks =
    rw (length-map tasks ready_place) (first-agree _ _ rank _ _ (length tasks) (oob-at tasks c) (oob_stamp-at tasks c))

pub next-placed : (c : ℕ) (tasks : List Task)
    → ranks.first (λ t. runs_in_band c (entry (map ready_place tasks) t)) (λ _. 0) (λ t. place_stamp (entry (map ready_place tasks) t)) (length (map ready_place tasks))
    ≡ ranks.next_in_band c tasks
unfolding ranks.next_in_band
next-placed c tasks =
    rw (length-map tasks ready_place) (first-agree _ _ (λ _. 0) _ _ (length tasks) (in_band-at tasks c) (in_band_stamp-at tasks c))

-- whether any is ready out-of-band
pub any-placed : (tasks : List Task) → any_oob (map ready_place tasks) ≡ has_oob tasks
any-placed [] = refl
any-placed (task ∷ tasks) =
    ap (λ (b : Bool). b || any_oob (map ready_place tasks)) (any-in task.state task.cpu task.stamp)
    ∙ ap (λ (b : Bool). ranks.is_oob_ready task.state || b) (any-placed tasks)
