use Rattle.std.proofs.Common.{◌≡◌, ℕ, ◌+◌, ◌<◌, ◌≤◌, ◌&&◌, Bool, true, false, Option, Some, refl, ap, ◌∙◌, arith}
use Rattle.std.specs.Prelude.{◌-◌, slice_get, option_map, nat_le, if◌then◌else◌}
use Rattle.std.proofs.lemmas.Bool.Decides.{nat_tests}
use Rattle.evm_model.proofs.Lists.{change-here}
use Rattle.evm_model.specs.InBandCalls.{yield_now}
use Rattle.evm_model.specs.OobCalls.{yield_oob}
use Rattle.evm_model.specs.Ranks.{is_oob_ready}
use Rattle.evm_model.specs.Settle.{spend}
use Rattle.evm_model.specs.Stages.{is_stalled, stalled_pipe}
use Rattle.evm_model.specs.State.{Parts}
use Rattle.evm_model.specs.Tasks.{is_round_robin, leave_in_band, restamp, set_slice, spend_slice, spend_task}
use Rattle.evm_model.specs.declared.limits.TheConstants.{SLICE}
use Rattle.evm_model.specs.declared.stage.Stage.TheVariants.{InBand}
use Rattle.evm_model.specs.declared.task.Class.TheVariants.{RoundRobin}
use Rattle.evm_model.specs.declared.task.Task.{Task}
use Rattle.evm_model.specs.declared.task.TaskState.{TaskState}
use Rattle.evm_model.specs.declared.task.TaskState.TheVariants.{OobReady}
use Rattle.claims_machine.proofs.waking.a_yield_and_a_spent_slice_give_a_fresh_stamp.Goals as goal

restamped : (t : ℕ) (k : Parts) (task : Task) → slice_get k.tasks t ≡ Some task → (slice_get (restamp t k).tasks t ≡ Some (record task { stamp = k.stamps })) × ((restamp t k).stamps ≡ k.stamps + 1)
unfolding restamp
restamped t k task there = (change-here (λ (y : Task). record y { stamp = k.stamps }) k.tasks t ∙ ap (option_map (λ (y : Task). record y { stamp = k.stamps })) there, refl)

pub returns-clause-yields : goal.returns-clause-yields
unfolding yield_now leave_in_band
returns-clause-yields g c t k task pipe there at clear =
    let free : is_stalled InBand c k ≡ false = ap (stalled_pipe InBand) at ∙ clear in rw free (restamped t k task there)

pub returns-clause-yields_oob : goal.returns-clause-yields_oob
unfolding yield_oob
returns-clause-yields_oob g t k task there = restamped t k task there

-- a task of that class that is ready out-of-band spends a tick
spends : (t : ℕ) (k : Parts) (task : Task) → slice_get k.tasks t ≡ Some task → task.state ≡ OobReady → task.class ≡ RoundRobin → spend (Some t) k ≡ spend_slice t task.slice k
unfolding spend
spends t k task there is robin =
    let on : (is_oob_ready task.state && is_round_robin task.class) ≡ true = ap (λ (s : TaskState). is_oob_ready s && is_round_robin task.class) is ∙ ap is_round_robin robin in
    ap (λ (o : Option Task). spend_task o t k) there ∙ ap (λ (b : Bool). if b then spend_slice t task.slice k else k) on

last : (t slice : ℕ) (k : Parts) → slice ≤ 1 → spend_slice t slice k ≡ restamp t (set_slice t SLICE k)
unfolding spend_slice
last t slice k low = let e : nat_le slice 1 ≡ true = grind (arith, nat_tests) in ap (λ (b : Bool). if b then restamp t (set_slice t SLICE k) else set_slice t (slice - 1) k) e

one : (t slice : ℕ) (k : Parts) → 1 < slice → spend_slice t slice k ≡ set_slice t (slice - 1) k
unfolding spend_slice
one t slice k more = let e : nat_le slice 1 ≡ false = grind (arith, nat_tests) in ap (λ (b : Bool). if b then restamp t (set_slice t SLICE k) else set_slice t (slice - 1) k) e

set_there : (t slice : ℕ) (k : Parts) (task : Task) → slice_get k.tasks t ≡ Some task → slice_get (set_slice t slice k).tasks t ≡ Some (record task { slice = slice })
unfolding set_slice
set_there t slice k task there = change-here (λ (y : Task). record y { slice = slice }) k.tasks t ∙ ap (option_map (λ (y : Task). record y { slice = slice })) there

slice_stamps : (t slice : ℕ) (k : Parts) → (set_slice t slice k).stamps ≡ k.stamps
unfolding set_slice
slice_stamps t slice k = refl

pub returns-clause-spends_last : goal.returns-clause-spends_last
returns-clause-spends_last g t k task there is robin low =
    let same = spends t k task there is robin ∙ last t task.slice k low in
    let whole : Parts = set_slice t SLICE k in
    let stamped = restamped t whole (record task { slice = SLICE }) (set_there t SLICE k task there) in (
      ap (λ (x : Parts). slice_get x.tasks t) same ∙ stamped.0 ∙ ap (λ n. Some (record task { slice = SLICE; stamp = n })) (slice_stamps t SLICE k),
      ap (λ (x : Parts). x.stamps) same ∙ stamped.1 ∙ ap (λ n. n + 1) (slice_stamps t SLICE k),
    )

pub returns-clause-spends_one : goal.returns-clause-spends_one
returns-clause-spends_one g t k task there is robin more = ap (λ (x : Parts). slice_get x.tasks t) (spends t k task there is robin ∙ one t task.slice k more) ∙ set_there t (task.slice - 1) k task there
