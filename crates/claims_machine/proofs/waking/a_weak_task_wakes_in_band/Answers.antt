use Rattle.std.proofs.Common.{◌≡◌, ℕ, zero, suc, ◌<◌, List, Bool, true, false, not, ◌&&◌, Option, Some, None, length, ◌⊎◌, inl, inr, refl, ap, sym, ◌∙◌, arith}
use Rattle.std.specs.Prelude.{slice_get, option_map, if◌then◌else◌}
use Rattle.std.proofs.Math.Nat.{eq-or-lt_of_le}
use Rattle.std.proofs.lemmas.Option.{slice_get_within}
use Rattle.evm_model.specs.Boosts.{is_number}
use Rattle.evm_model.proofs.Greatest.{boosts-is, boosts-so}
use Rattle.evm_model.proofs.Lists.{change-here}
use Rattle.evm_model.specs.Lists.{change}
use Rattle.evm_model.specs.Mutexes.{owner_of, owner, owns_below, owns_any}
use Rattle.evm_model.specs.State.{Parts}
use Rattle.evm_model.specs.Tasks.{restamp, is_weak}
use Rattle.evm_model.specs.Waits.{stage_of_wait, ready_on, woken_state, woken, wake}
use Rattle.evm_model.specs.declared.mutex.Mutex.{Mutex}
use Rattle.evm_model.specs.declared.stage.Stage.{Stage}
use Rattle.evm_model.specs.declared.stage.Stage.TheVariants.{InBand, OutOfBand}
use Rattle.evm_model.specs.declared.task.Class.{Class}
use Rattle.evm_model.specs.declared.task.Class.TheVariants.{Weak}
use Rattle.evm_model.specs.declared.task.Task.{Task}
use Rattle.evm_model.specs.declared.task.TaskState.{TaskState}
use Rattle.evm_model.specs.declared.task.TaskState.TheVariants.{InReady, OobReady, Waits}
use Rattle.evm_model.specs.declared.task.Wait.{Wait}
use Rattle.evm_model.specs.declared.task.Wait.TheVariants.{Line}
use Rattle.claims_machine.proofs.waking.a_weak_task_wakes_in_band.Goals as goal

-- ---- which mutexes it owns
owner_is : (t : ℕ) (o : Option Mutex) → owner_of o ≡ Some t → (mutex : Mutex) × ((o ≡ Some mutex) × (mutex.owner ≡ Some t))
owner_is t None e = cc
owner_is t (Some mutex) e = (mutex, (refl, e))

none_more : (b rest : Bool) → (b ≡ true → ⊥) → rest ≡ false → (if b then true else rest) ≡ false
none_more true rest h e = absurd (h refl)
none_more false rest h e = e

owns_none : (t : ℕ) (mutexes : List Mutex) → ((m : ℕ) (mutex : Mutex) → slice_get mutexes m ≡ Some mutex → mutex.owner ≡ Some t → ⊥) → (n : ℕ) → owns_below t mutexes n ≡ false
unfolding owns_below
owns_none t mutexes h zero = refl
owns_none t mutexes h (suc m) =
    none_more (is_number (owner mutexes m) t) (owns_below t mutexes m)
    (λ e. let o = owner_is t (slice_get mutexes m) (boosts-is (owner mutexes m) t e) in h m o.0 o.1.0 o.1.1) (owns_none t mutexes h m)

one_more : (b rest : Bool) → (b ≡ true) ⊎ (rest ≡ true) → (if b then true else rest) ≡ true
one_more true rest h = refl
one_more false rest (inl e) = cc
one_more false rest (inr e) = e

owns_one : (t m : ℕ) (mutexes : List Mutex) → owner mutexes m ≡ Some t → (n : ℕ) → m < n → owns_below t mutexes n ≡ true
unfolding owns_below
owns_one t m mutexes e zero low = absurd (omega (arith, low))
owns_one t m mutexes e (suc n) low = one_more (is_number (owner mutexes n) t) (owns_below t mutexes n) (elim (eq-or-lt_of_le {n = m} {m = n} (omega (arith, low))) [
  | inl same ↦ inl (boosts-so (owner mutexes n) t (ap (owner mutexes) (sym same) ∙ e))
  | inr less ↦ inr (owns_one t m mutexes e n less)
])

-- ---- how it wakes
woken_there : (t value : ℕ) (k : Parts) (task : Task) → slice_get k.tasks t ≡ Some task → slice_get (wake t value k).tasks t ≡ Some (record (woken (owns_any t k.mutexes) task) { stamp = k.stamps })
unfolding wake restamp
woken_there t value k task there =
    let stamped : Task → Task = λ y. record y { stamp = k.stamps } in
    change-here stamped (change (woken (owns_any t k.mutexes)) k.tasks t) t ∙ ap (option_map stamped) (change-here (woken (owns_any t k.mutexes)) k.tasks t ∙ ap (option_map (woken (owns_any t k.mutexes))) there)

woken_as : (t value : ℕ) (k : Parts) (task : Task) (wait : Wait) (state : TaskState) → slice_get k.tasks t ≡ Some task → task.state ≡ Waits wait
    → ready_on (stage_of_wait wait) (is_weak task.class && not (owns_any t k.mutexes)) ≡ state
    → slice_get (wake t value k).tasks t ≡ Some (record task { state = state; deadline = 0; stamp = k.stamps })
woken_as t value k task wait state there is on =
    let at : woken_state (is_weak task.class && not (owns_any t k.mutexes)) task.state ≡ state = ap (woken_state (is_weak task.class && not (owns_any t k.mutexes))) is ∙ on in
    woken_there t value k task there ∙ ap (λ (s : TaskState). Some (record task { state = s; deadline = 0; stamp = k.stamps })) at

returns_in_band : (stage : Stage) → ready_on stage true ≡ InReady
returns_in_band InBand = refl
returns_in_band OutOfBand = refl

not_line : (wait : Wait) → ((l : ℕ) → wait ≡ Line l → ⊥) → stage_of_wait wait ≡ OutOfBand
not_line (Line l) h = absurd (h l refl)
not_line _ h = refl

weak_is : (class : Class) → is_weak class ≡ true → class ≡ Weak
weak_is Weak e = refl
weak_is _ e = cc

stays : (class : Class) (owns : Bool) → (class ≡ Weak → ⊥) ⊎ (owns ≡ true) → (is_weak class && not owns) ≡ false
stays class owns h = by (is_weak class) refl owns h
  where
    by : (b : Bool) → is_weak class ≡ b → (o : Bool) → (class ≡ Weak → ⊥) ⊎ (o ≡ true) → (b && not o) ≡ false
    by true e true h = refl
    by true e false (inl other) = absurd (other (weak_is class e))
    by true e false (inr owned) = cc
    by false e o h = refl

pub returns-clause-weak : goal.returns-clause-weak
returns-clause-weak g t value k task wait there is weak none =
    woken_as t value k task wait InReady there is
    (ap (λ (b : Bool). ready_on (stage_of_wait wait) (is_weak task.class && not b)) (owns_none t k.mutexes none (length k.mutexes))
    ∙ ap (λ (class : Class). ready_on (stage_of_wait wait) (is_weak class && not false)) weak ∙ returns_in_band (stage_of_wait wait))

pub returns-clause-others : goal.returns-clause-others
returns-clause-others g t value k task wait there is other why =
    woken_as t value k task wait OobReady there is
    (ap (λ (stage : Stage). ready_on stage (is_weak task.class && not (owns_any t k.mutexes))) (not_line wait other)
    ∙ ap (λ (b : Bool). ready_on OutOfBand b) (stays task.class (owns_any t k.mutexes) (elim why [
      | inl class ↦ inl class
      | inr owns ↦ inr (owns_one t owns.0 k.mutexes (ap owner_of owns.1.1.0 ∙ owns.1.1.1) (length k.mutexes) (slice_get_within k.mutexes owns.0 owns.1.0 owns.1.1.0))
    ])))

pub returns-clause-line : goal.returns-clause-line
returns-clause-line g t value l k task there is = woken_as t value k task (Line l) InReady there is refl
