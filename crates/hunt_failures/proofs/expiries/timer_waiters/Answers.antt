use Rattle.std.proofs.Common.{◌≡◌, ℕ, zero, suc, ◌+◌, ◌<◌, [], ◌∷◌, ◌++◌, Bool, List, Option, Some, length, ap, sym, subst, ◌∙◌, arith}
use Rattle.std.specs.Prelude.{slice_get}
use Rattle.std.proofs.lemmas.List.{length_push}
use Rattle.std.proofs.lemmas.Option.{slice_get_past}
use Rattle.hunt_failures.specs.Eves.{is_listed}
use Rattle.hunt_failures.specs.Failures.{awaits_timer}
use Rattle.hunt_failures.proofs.Lists.{each-place}
use Rattle.hunt_failures.proofs.expiries.timer_waiters.Goals as goal

-- one more behind a list of which each element is known
more : (P : ℕ → Bool) (xs : List Bool) (y : Bool) (n : ℕ) → length xs ≡ n → ((k : ℕ) → k < n → slice_get xs k ≡ Some (P k)) → y ≡ P n → (k : ℕ) → k < n + 1 → slice_get (xs ++ y ∷ []) k ≡ Some (P k)
more P [] y zero long each last zero less = ap Some last
more P [] y zero long each last (suc k) less = absurd (omega arith)
more P [] y (suc n) long each last k less = absurd (omega arith)
more P (x ∷ xs) y zero long each last k less = absurd (omega arith)
more P (x ∷ xs) y (suc n) long each last zero less = each 0 (omega arith)
more P (x ∷ xs) y (suc n) long each last (suc k) less = more (λ j. P (suc j)) xs y n (omega arith) (λ j lower. each (suc j) (omega arith)) last k (omega arith)

pub tasks-preserved : goal.tasks-preserved
tasks-preserved c =
    let P : ℕ → Bool = λ k. awaits_timer (slice_get c.args.machine.now.board.parts.tasks k) in
    let waits : c.awaits_timer.result ≡ P c.tasks.t = c.awaits_timer.ensures ∙ ap awaits_timer c.task.ensures in
    record {
      count = ap length c.push.ensures.items ∙ (length_push c.tasks.waiters.items c.awaits_timer.result ∙ ap (λ (n : ℕ). n + 1) c.tasks.invariant.count);
      waiters = λ k less. subst (λ (xs : List Bool). slice_get xs k ≡ Some (P k)) (sym c.push.ensures.items)
          (more P c.tasks.waiters.items c.awaits_timer.result c.tasks.t c.tasks.invariant.count c.tasks.invariant.waiters waits k less);
    }

pub returns : goal.returns
returns c =
    let P : ℕ → Option Bool → Type 0 = λ k o. is_listed o ≡ awaits_timer (slice_get c.args.machine.now.board.parts.tasks k) in
    each-place P c.tasks.waiters.items
    (λ k less. ap is_listed (c.tasks.invariant.waiters k (omega arith)))
    (λ k past. sym (ap awaits_timer (slice_get_past c.args.machine.now.board.parts.tasks k (omega arith))))
