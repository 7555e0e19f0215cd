-- Fresh stamps, and a task more, in parts that differ in harts alone.
use Rattle.std.proofs.Common.{◌≡◌, ℕ, zero, suc, ◌+◌, List, [], ◌∷◌, ◌++◌, true, Option, Some, None, length, refl, ap, sym, ◌∙◌, arith}
use Rattle.std.specs.Prelude.{slice_get}
use Rattle.evm_exec.specs.declared.hart.Hart.{Hart}
use Rattle.evm_model.proofs.Lists.{length-change}
use Rattle.evm_model.specs.Harts.{spawned_hart}
use Rattle.evm_model.specs.InBandCalls.{add_task}
use Rattle.evm_model.specs.State.{Parts, new_task}
use Rattle.evm_model.specs.Tasks.{restamp}
use Rattle.evm_model.specs.declared.task.Task.{Task}
use Rattle.law_runs.specs.Ahead.{HeadStart, Ahead, has_ready_state, goes}
use Rattle.law_runs.proofs.Alike.AheadChanging.{ready-changed, goes-none}
use Rattle.law_runs.proofs.Alike.AheadReading.{still}

pub ahead_restamp : {lead : HeadStart} {p q : Parts} → Ahead lead p q → (t : ℕ) → Ahead lead (restamp t p) (restamp t q)
unfolding restamp
ahead_restamp {p = p} {q = q} a t = record {
  same = ap (restamp t) a.same;
  ahead = a.ahead;
  ready = λ u n e. ready-changed (λ task. record task { stamp = p.stamps }) p.tasks t u (λ x r. r) (a.ready u n e);
  count = a.count ∙ sym (length-change (λ task. record task { stamp = p.stamps }) p.tasks t);
  other_count = a.other_count ∙ sym (length-change (λ task. record task { stamp = q.stamps }) q.tasks t);
}

-- ---- a task more
length-pushed : {X Y : Type 0} (xs : List X) (ys : List Y) (x : X) (y : Y) → length xs ≡ length ys → length (xs ++ x ∷ []) ≡ length (ys ++ y ∷ [])
length-pushed [] [] x y e = refl
length-pushed [] (b ∷ ys) x y e = absurd (omega (arith, e))
length-pushed (a ∷ xs) [] x y e = absurd (omega (arith, e))
length-pushed (a ∷ xs) (b ∷ ys) x y e = ap suc (length-pushed xs ys x y (omega (arith, e)))

harts-pushed : (g : ℕ → Option Hart → Option Hart) (xs ys : List Hart) (h : Hart) → ((u : ℕ) → g u None ≡ None) → length xs ≡ length ys → g (length xs) (Some h) ≡ Some h
    → ((u : ℕ) → slice_get ys u ≡ g u (slice_get xs u)) → (u : ℕ) → slice_get (ys ++ h ∷ []) u ≡ g u (slice_get (xs ++ h ∷ []) u)
harts-pushed g [] [] h none e last all zero = sym last
harts-pushed g [] [] h none e last all (suc u) = sym (none (suc u))
harts-pushed g [] (y ∷ ys) h none e last all u = absurd (omega (arith, e))
harts-pushed g (x ∷ xs) [] h none e last all u = absurd (omega (arith, e))
harts-pushed g (x ∷ xs) (y ∷ ys) h none e last all zero = all zero
harts-pushed g (x ∷ xs) (y ∷ ys) h none e last all (suc u) =
    harts-pushed (λ u. g (suc u)) xs ys h (λ u. none (suc u)) (omega (arith, e)) last (λ u. all (suc u)) u

ready-pushed : (tasks : List Task) (x : Task) (u : ℕ) → has_ready_state (slice_get tasks u) ≡ true → has_ready_state (slice_get (tasks ++ x ∷ []) u) ≡ true
ready-pushed [] x u e = cc
ready-pushed (y ∷ tasks) x zero e = e
ready-pushed (y ∷ tasks) x (suc u) e = ready-pushed tasks x u e

none-behind : (tasks : List Task) → slice_get tasks (length tasks) ≡ None
none-behind [] = refl
none-behind (x ∷ tasks) = none-behind tasks

last-still : {lead : HeadStart} {p q : Parts} → Ahead lead p q → lead.rows (length p.harts) ≡ 0
last-still {p = p} a = still a (length p.harts) (rw (a.count, none-behind p.tasks) refl)

pub ahead_add_task : {lead : HeadStart} {p q : Parts} → Ahead lead p q → (entry value cpu : ℕ) → Ahead lead (add_task entry value cpu p) (add_task entry value cpu q)
unfolding add_task
ahead_add_task {lead = lead} {p = p} {q = q} a entry value cpu = record {
  same = ap (λ (k : Parts). record k { tasks = k.tasks ++ new_task cpu k.stamps ∷ []; stamps = k.stamps + 1 }) a.same;
  ahead =
      let size : length p.harts ≡ length q.harts = a.count ∙ ap (λ (k : Parts). length k.tasks) a.same ∙ sym a.other_count in
      let last : goes lead.code (lead.rows (length p.harts)) (Some (spawned_hart entry value)) ≡ Some (spawned_hart entry value) = rw (last-still a) refl in
      harts-pushed (λ u. goes lead.code (lead.rows u)) p.harts q.harts (spawned_hart entry value) (λ u. goes-none lead.code (lead.rows u)) size last a.ahead;
  ready = λ u n e. ready-pushed p.tasks (new_task cpu p.stamps) u (a.ready u n e);
  count = length-pushed p.harts p.tasks (spawned_hart entry value) (new_task cpu p.stamps) a.count;
  other_count = length-pushed q.harts q.tasks (spawned_hart entry value) (new_task cpu q.stamps) a.other_count;
}
