-- A fresh stamp of alike parts is above all others in both, so stamps compare alike afterwards.
use Rattle.std.proofs.Common.{◌≡◌, ℕ, zero, suc, ◌+◌, ◌<◌, List, [], ◌∷◌, ◌++◌, Option, Some, None, length, map, refl, ap, sym, ◌∙◌, ◌⊎◌, inl, inr, arith, length-append}
use Rattle.std.specs.Prelude.{slice_get, option_map, nat_lt}
use Rattle.std.proofs.lemmas.Bool.Decides.{eqb_tells}
use Rattle.std.proofs.lemmas.List.{map-append}
use Rattle.evm_model.proofs.Lists.{change-here, change-elsewhere, change-same, length-change, slice_get-within}
use Rattle.evm_model.specs.Harts.{spawned_hart}
use Rattle.evm_model.specs.InBandCalls.{add_task}
use Rattle.evm_model.specs.Lists.{change}
use Rattle.evm_model.specs.Ranks.{stamp, stamp_of}
use Rattle.evm_model.specs.State.{Parts, new_task}
use Rattle.evm_model.specs.Tasks.{restamp}
use Rattle.evm_model.specs.declared.task.Task.{Task}
use Rattle.law_runs.specs.Alike.{unstamped, erased, SameOrder, Alike}
use Rattle.law_runs.proofs.Alike.Lists.{map-change, lt-true, lt-false}
use Rattle.law_runs.proofs.Alike.Reading.{task_count-same}

-- task t has this stamp
abbrev stamped : ℕ → Task → Task
stamped n task = record task { stamp = n }

-- where task t of so many has a fresh stamp, and each other has its own
record Newer (tasks : List Task) (n t count : ℕ) (stamps : ℕ → ℕ) : Type 0 where
  here : t < count → stamps t ≡ n
  elsewhere : (u : ℕ) → u < count → (u ≡ t → ⊥) → (stamps u ≡ stamp tasks u) × (u < length tasks)

module _ (xs ys : List Task) (n m t count : ℕ) (s r : ℕ → ℕ) (x : Newer xs n t count s) (y : Newer ys m t count r) (b : (u : ℕ) → u < length xs → stamp xs u < n) (d : (u : ℕ) → u < length ys → stamp ys u < m) where
  newer-order : SameOrder xs ys → (u v : ℕ) → u < count → v < count → (u ≡ t) ⊎ (u ≡ t → ⊥) → (v ≡ t) ⊎ (v ≡ t → ⊥) → nat_lt (s u) (s v) ≡ nat_lt (r u) (r v)
  newer-order o u v h k (inl e) (inl f) =
      let here : t < count = omega arith in
      rw (e, f, x.here here, y.here here) (lt-false n n (omega arith) ∙ sym (lt-false m m (omega arith)))
  newer-order o u v h k (inl e) (inr f) =
      let here : t < count = omega arith in let i = x.elsewhere v k f in let j = y.elsewhere v k f in
      rw (e, x.here here, y.here here, i.0, j.0) (lt-false n (stamp xs v) (omega (arith, b v i.1)) ∙ sym (lt-false m (stamp ys v) (omega (arith, d v j.1))))
  newer-order o u v h k (inr e) (inl f) =
      let here : t < count = omega arith in let i = x.elsewhere u h e in let j = y.elsewhere u h e in
      rw (f, x.here here, y.here here, i.0, j.0) (lt-true (stamp xs u) n (b u i.1) ∙ sym (lt-true (stamp ys u) m (d u j.1)))
  newer-order o u v h k (inr e) (inr f) =
      let i = x.elsewhere u h e in let j = y.elsewhere u h e in let i' = x.elsewhere v k f in let j' = y.elsewhere v k f in
      rw (i.0, j.0, i'.0, j'.0) (o u v i.1 i'.1)

is_same : (u t : ℕ) → (u ≡ t) ⊎ (u ≡ t → ⊥)
is_same u t = elim (eqb_tells u t) [ inl g ↦ inl g.1 | inr g ↦ inr g.1 ]

newer-below : (tasks : List Task) (n t count : ℕ) (s : ℕ → ℕ) → Newer tasks n t count s → ((u : ℕ) → u < length tasks → stamp tasks u < n) → (u : ℕ) → u < count → s u < n + 1
newer-below tasks n t count s x b u h = elim (is_same u t) [
  | inl e ↦ let here : t < count = omega arith in rw (e, x.here here) (omega arith)
  | inr e ↦ let i = x.elsewhere u h e in rw i.0 (omega (arith, b u i.1))
]

-- ---- a task of the list gets it
option-stamped : (n : ℕ) (o : Option Task) (x : Task) → o ≡ Some x → stamp_of (option_map (stamped n) o) ≡ n
option-stamped n None x e = cc
option-stamped n (Some y) x e = refl

newer-change : (tasks : List Task) (n t count : ℕ) → count ≡ length tasks → Newer tasks n t count (stamp (change (stamped n) tasks t))
newer-change tasks n t count e = record {
  here = λ h. let x = slice_get-within tasks t (omega (arith, e)) in ap stamp_of (change-here (stamped n) tasks t) ∙ option-stamped n (slice_get tasks t) x.0 x.1;
  elsewhere = λ u h other. (ap stamp_of (change-elsewhere (stamped n) tasks t u other), omega (arith, e));
}

unstamped-change : (n t : ℕ) (tasks : List Task) → map unstamped (change (stamped n) tasks t) ≡ map unstamped tasks
unstamped-change n t tasks = map-change unstamped (stamped n) (λ x. x) tasks t (λ x. refl) ∙ change-same (λ x. x) (map unstamped tasks) t (λ x e. refl)

erased-restamp : (t : ℕ) (k : Parts) → erased (restamp t k) ≡ erased k
unfolding restamp
erased-restamp t k = ap (λ tasks. record (erased k) { tasks = tasks }) (unstamped-change k.stamps t k.tasks)

-- task t has a fresh stamp
pub alike_restamp : {p q : Parts} → Alike p q → (t : ℕ) → Alike (restamp t p) (restamp t q)
unfolding restamp
alike_restamp {p = p} {q = q} a t =
    let x = newer-change p.tasks p.stamps t (length p.tasks) refl in let y = newer-change q.tasks q.stamps t (length p.tasks) (task_count-same a) in record {
      same = erased-restamp t p ∙ a.same ∙ sym (erased-restamp t q);
      order = λ u v h k.
          newer-order p.tasks q.tasks p.stamps q.stamps t (length p.tasks) (stamp (change (stamped p.stamps) p.tasks t)) (stamp (change (stamped q.stamps) q.tasks t)) x y a.below a.other_below a.order u v
          (rw (length-change (stamped p.stamps) p.tasks t) at h) (rw (length-change (stamped p.stamps) p.tasks t) at k) (is_same u t) (is_same v t);
      below = λ u h. newer-below p.tasks p.stamps t (length p.tasks) _ x a.below u (rw (length-change (stamped p.stamps) p.tasks t) at h);
      other_below = λ u h.
          newer-below q.tasks q.stamps t (length p.tasks) _ y a.other_below u (rw (length-change (stamped q.stamps) q.tasks t, sym (task_count-same a)) at h);
    }

-- ---- a new task gets it
stamp-here : (tasks : List Task) (x : Task) → stamp (tasks ++ x ∷ []) (length tasks) ≡ x.stamp
stamp-here [] x = refl
stamp-here (y ∷ tasks) x = stamp-here tasks x

stamp-before : (tasks : List Task) (x : Task) (u : ℕ) → u < length tasks → stamp (tasks ++ x ∷ []) u ≡ stamp tasks u
stamp-before [] x u h = absurd (omega arith)
stamp-before (y ∷ tasks) x zero h = refl
stamp-before (y ∷ tasks) x (suc u) h = stamp-before tasks x u (omega arith)

length-push : (tasks : List Task) (x : Task) → length (tasks ++ x ∷ []) ≡ length tasks + 1
length-push tasks x = length-append tasks (x ∷ [])

newer-push : (tasks : List Task) (n t : ℕ) (x : Task) → t ≡ length tasks → x.stamp ≡ n → Newer tasks n t (t + 1) (stamp (tasks ++ x ∷ []))
newer-push tasks n t x e f = record {
  here = λ h. rw e (stamp-here tasks x ∙ f);
  elsewhere = λ u h other. let below : u < length tasks = omega (arith, e, lt_of-other u t h other) in (stamp-before tasks x u below, below);
}
  where
    lt_of-other : (u t : ℕ) → u < t + 1 → (u ≡ t → ⊥) → u < t
    lt_of-other u t h other = omega arith

erased-add : (entry value cpu : ℕ) (k : Parts)
    → erased (add_task entry value cpu k) ≡ record (erased k) { harts = k.harts ++ spawned_hart entry value ∷ []; tasks = map unstamped k.tasks ++ new_task cpu 0 ∷ [] }
unfolding add_task
erased-add entry value cpu k =
    ap (λ tasks. record (erased k) { harts = k.harts ++ spawned_hart entry value ∷ []; tasks = tasks }) (map-append unstamped k.tasks (new_task cpu k.stamps ∷ []))

-- a task more
pub alike_add_task : {p q : Parts} → Alike p q → (entry value cpu : ℕ) → Alike (add_task entry value cpu p) (add_task entry value cpu q)
unfolding add_task
alike_add_task {p = p} {q = q} a entry value cpu =
    let new = new_task cpu p.stamps in let other = new_task cpu q.stamps in let t = length p.tasks in
    let x = newer-push p.tasks p.stamps t new refl refl in let y = newer-push q.tasks q.stamps t other (task_count-same a) refl in record {
      same = erased-add entry value cpu p ∙ ap (λ (k : Parts). record k { harts = k.harts ++ spawned_hart entry value ∷ []; tasks = k.tasks ++ new_task cpu 0 ∷ [] }) a.same
          ∙ sym (erased-add entry value cpu q);
      order = λ u v h k.
          newer-order p.tasks q.tasks p.stamps q.stamps t (t + 1) (stamp (p.tasks ++ new ∷ [])) (stamp (q.tasks ++ other ∷ [])) x y a.below a.other_below a.order u v
          (rw (length-push p.tasks new) at h) (rw (length-push p.tasks new) at k) (is_same u t) (is_same v t);
      below = λ u h. newer-below p.tasks p.stamps t (t + 1) _ x a.below u (rw (length-push p.tasks new) at h);
      other_below = λ u h. newer-below q.tasks q.stamps t (t + 1) _ y a.other_below u (rw (length-push q.tasks other, sym (task_count-same a)) at h);
    }
