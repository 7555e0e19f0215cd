-- How often mutexes are locked.
use Rattle.std.proofs.Common.{◌≡◌, ℕ, ◌+◌, ◌≤◌, List, Some, inl, inr, arith}
use Rattle.std.specs.Prelude.{slice_get}
use Rattle.evm_model.specs.Bounds.{HeldUpTo}
use Rattle.evm_model.specs.Commands.{tick}
use Rattle.evm_model.specs.Lists.{change}
use Rattle.evm_model.specs.Mutexes.{free_mutex, held_by}
use Rattle.evm_model.specs.State.{Parts}
use Rattle.evm_model.specs.OobCalls.{move_task}
use Rattle.evm_model.specs.Tasks.{restamp, set_state, set_policy, set_slice}
use Rattle.evm_model.specs.Waits.{wake, begin_wait}
use Rattle.evm_model.specs.declared.mutex.Mutex.{Mutex}
use Rattle.evm_model.proofs.Lists.{change-cases, slice_get-push}
use Rattle.law_rules.proofs.Sizes.{of_spend}
use Rattle.law_rules.proofs.Walk.{Actor, ArePipes, Does, spends, regains, gives, holds, makes, Walk, start, next}

pub held_more : (a b : ℕ) (mutexes : List Mutex) → a ≤ b → HeldUpTo a mutexes → HeldUpTo b mutexes
held_more a b mutexes h s = record { count = λ m mutex e. omega (arith, s.count m mutex e) }

-- one of them changes
held_changed : (m a b : ℕ) (f : Mutex → Mutex) (mutexes : List Mutex) → a ≤ b
    → ((mutex : Mutex) → slice_get mutexes m ≡ Some mutex → mutex.count ≤ a → (f mutex).count ≤ b) → HeldUpTo a mutexes → HeldUpTo b (change f mutexes m)
held_changed m a b f mutexes h c s = record {
  count = λ i mutex e. elim (change-cases f mutexes m i mutex e) [
    | inl g ↦ rw g.3 (c g.1 g.2 (s.count m g.1 g.2))
    | inr g ↦ omega (arith, s.count i mutex g.1)
  ];
}

module _ (a : Actor) (old : Parts) where
  does_hold : (i j : ℕ) (k x : Parts) (b : ℕ) → 1 ≤ b → Does a old i j k x → HeldUpTo b k.mutexes → HeldUpTo (b + i) x.mutexes
  unfolding restamp set_state set_policy set_slice move_task wake begin_wait tick
  does_hold _ _ _ _ b h (spends t x k runs there on) q = of_spend (λ (y : Parts). HeldUpTo (b + 0) y.mutexes) t x.slice k (held_more b (b + 0) k.mutexes (omega arith) q) (held_more b (b + 0) k.mutexes (omega arith) q)
  does_hold _ _ _ _ b h (gives t u m k own same its) q = held_changed m b (b + 0) (held_by u 1) k.mutexes (omega arith) (λ x e c. omega (arith, h)) q
  does_hold _ _ _ _ b h (holds i t m f k own same x) q = held_changed m b (b + i) f k.mutexes (omega arith) (λ y e c. omega (arith, c, (x y e).count)) q
  does_hold _ _ _ _ b h (regains u e m z k there on its free) q = held_changed m b (b + 0) (held_by u 1) k.mutexes (omega arith) (λ x e c. omega (arith, h)) q
  does_hold _ _ _ _ b h (makes t recursive protocol k own fresh room) q = record {
    count = λ m other e. elim (slice_get-push k.mutexes (free_mutex recursive protocol) m other e) [
      | inl there ↦ omega (arith, q.count m other there)
      | inr last ↦ rw last.1 (omega arith)
    ];
  }
  does_hold i _ k _ b h _ q = held_more b (b + i) k.mutexes (omega arith) q

  pub walk_holds : (n s : ℕ) (k : Parts) (b : ℕ) → ArePipes old → 1 ≤ b → Walk a old n s k → HeldUpTo b old.mutexes → HeldUpTo (b + n) k.mutexes
  walk_holds _ _ _ b p h start q = held_more b (b + 0) old.mutexes (omega arith) q
  walk_holds _ _ _ b p h (next m n s u i j k x few g d w) q =
      held_more (b + m + i) (b + n) x.mutexes (omega (arith, few p)) (does_hold i j k x (b + m) (omega (arith, h)) d (walk_holds m s k b p h w q))
