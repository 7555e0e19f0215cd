-- One more link of the way to a task.
use Rattle.std.proofs.Common.{◌≡◌, ℕ, zero, suc, ◌+◌, ◌-◌, ◌<◌, ◌≤◌, Option, Some, None, true, false, refl, sym, ◌∙◌, arith, eq-eqb}
use Rattle.std.specs.Prelude.{◌==◌, if◌then◌else◌}
use Rattle.std.proofs.lemmas.Bool.{ne_eqb}
use Rattle.evm_model.specs.Boosts.{reaches}
use Rattle.evm_model.specs.declared.limits.TheConstants.{TASK_LIMIT}

reaches-none : (waits : ℕ → Option ℕ) (t links : ℕ) → reaches waits t links None ≡ false
unfolding reaches
reaches-none waits t zero = refl
reaches-none waits t (suc links) = refl

reaches-at : (waits : ℕ → Option ℕ) (t links u : ℕ) → (u == t) ≡ true → reaches waits t links (Some u) ≡ true
unfolding reaches
reaches-at waits t zero u e = e
reaches-at waits t (suc links) u e = rw e refl

reaches-on : (waits : ℕ → Option ℕ) (t links u : ℕ) → reaches waits t (suc links) (Some u) ≡ (if u == t then true else reaches waits t links (waits u))
unfolding reaches
reaches-on waits t links u = refl

-- it is there
pub reaches-there : (waits : ℕ → Option ℕ) (t link u : ℕ) → u ≡ t → reaches waits t (TASK_LIMIT - link) (Some u) ≡ true
reaches-there waits t link u same = reaches-at waits t (TASK_LIMIT - link) u (eq-eqb u t same)

reaches-next : (waits : ℕ → Option ℕ) (t link u : ℕ) → link < TASK_LIMIT → (u ≡ t → ⊥) → reaches waits t (TASK_LIMIT - (link + 1)) (waits u) ≡ reaches waits t (TASK_LIMIT - link) (Some u)
reaches-next waits t link u less other =
    let e : suc (TASK_LIMIT - (link + 1)) ≡ TASK_LIMIT - link = omega (arith, less) in
    let away : (u == t) ≡ false = ne_eqb u t other in
    rw (← e) (sym (reaches-on waits t (TASK_LIMIT - (link + 1)) u ∙ rw away refl))

-- it goes no further
pub reaches-nowhere : (waits : ℕ → Option ℕ) (t link u : ℕ) → link < TASK_LIMIT → (u ≡ t → ⊥) → waits u ≡ None → reaches waits t (TASK_LIMIT - link) (Some u) ≡ false
reaches-nowhere waits t link u less other e = sym (reaches-next waits t link u less other) ∙ rw e (reaches-none waits t (TASK_LIMIT - (link + 1)))

-- it goes one link on
pub reaches-further : (waits : ℕ → Option ℕ) (t link u v : ℕ) → link < TASK_LIMIT → (u ≡ t → ⊥) → waits u ≡ Some v → reaches waits t (TASK_LIMIT - (link + 1)) (Some v) ≡ reaches waits t (TASK_LIMIT - link) (Some u)
reaches-further waits t link u v less other e = rw (← e) (reaches-next waits t link u less other)

-- at the end of the way
reaches-last : (waits : ℕ → Option ℕ) (t u : ℕ) → reaches waits t 0 (Some u) ≡ (u == t)
unfolding reaches
reaches-last waits t u = refl

pub reaches-over : (waits : ℕ → Option ℕ) (t link u : ℕ) → TASK_LIMIT ≤ link → (u == t) ≡ reaches waits t (TASK_LIMIT - link) (Some u)
reaches-over waits t link u over =
    let e : TASK_LIMIT - link ≡ 0 = omega (arith, over) in rw e (sym (reaches-last waits t u))
