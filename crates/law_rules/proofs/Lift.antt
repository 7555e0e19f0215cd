-- What each move of a pipe keeps holds of a pipe after a walk.
use Rattle.std.proofs.Common.{◌≡◌, ℕ, ◌+◌, ◌≤◌, Bool, Option, Some, None, inl, inr, refl, sym, ◌∙◌, arith}
use Rattle.std.specs.Prelude.{slice_get, option_map}
use Rattle.std.proofs.lemmas.Option.{slice_get-map}
use Rattle.evm_model.specs.Commands.{tick}
use Rattle.evm_model.specs.Pipes.{Pipe, raise}
use Rattle.evm_model.specs.State.{Parts}
use Rattle.evm_model.specs.OobCalls.{move_task}
use Rattle.evm_model.specs.Tasks.{restamp, set_state, set_policy, set_slice}
use Rattle.evm_model.specs.Waits.{wake, begin_wait}
use Rattle.evm_model.proofs.Lists.{change-cases, slice_get-each}
use Rattle.law_rules.proofs.Sizes.{of_spend}
use Rattle.law_rules.proofs.Walk.{Actor, PipeMove, raises, ArePipes, Does, spends, moves, tells, clock, Walk, start, next}

-- a fact about a pipe and a number that counts up with the moves
pub record Lifts (may : ℕ → Bool) (P : ℕ → Pipe → Type 0) : Type 0 where
  pub more : (b n : ℕ) (p : Pipe) → b ≤ n → P b p → P n p
  pub moved : (b n : ℕ) (p q : Pipe) → PipeMove may n p q → P b p → P (b + n) q

-- it holds of the pipe of processor d
pub record At (P : ℕ → Pipe → Type 0) (d b : ℕ) (k : Parts) : Type 0 where
  pub holds : (p : Pipe) → slice_get k.pipes d ≡ Some p → P b p

mapped : (f : Pipe → Pipe) (o : Option Pipe) (z : Pipe) → option_map f o ≡ Some z → (x : Pipe) × (o ≡ Some x) × (z ≡ f x)
mapped f None z e = cc
mapped f (Some x) z e = (x, refl, cc)

module _ (a : Actor) (old : Parts) (P : ℕ → Pipe → Type 0) (d : ℕ) (l : Lifts (a.may d) P) (are : ArePipes old) where
  does_lift : (i j : ℕ) (k x : Parts) (b : ℕ) → Does a old i j k x → At P d b k → At P d (b + i) x
  unfolding restamp set_state set_policy set_slice move_task wake begin_wait tick
  does_lift _ _ _ _ b (spends t x k runs there on) h =
      of_spend (At P d (b + 0)) t x.slice k (record { holds = λ p e. l.more b (b + 0) p (omega arith) (h.holds p e) }) (record { holds = λ p e. l.more b (b + 0) p (omega arith) (h.holds p e) })
  does_lift _ _ _ _ b (moves i f k how) h = record {
    holds = λ q e. elim (change-cases f k.pipes a.cpu d q e) [
      | inl w ↦ let move : PipeMove (a.may d) i w.1 (f w.1) = rw w.0 (how are w.1 w.2) in rw w.3 (l.moved b i w.1 (f w.1) move (h.holds w.1 (rw w.0 w.2)))
      | inr w ↦ l.more b (b + i) q (omega arith) (h.holds q w.1)
    ];
  }
  does_lift _ _ _ _ b (tells line f k small how) h = record {
    holds = λ q e.
        let w = mapped (f d) (slice_get k.pipes d) q (sym (slice_get-each f k.pipes d) ∙ e) in
        elim (how d w.0) [
          | inl same ↦ rw (w.2, same) (l.more b (b + 1) w.0 (omega arith) (h.holds w.0 w.1))
          | inr told ↦ rw (w.2, told.0) (l.moved b 1 w.0 (raise line w.0) (raises line w.0 small told.1) (h.holds w.0 w.1))
        ];
  }
  does_lift _ _ _ _ b (clock k how) h = record {
    holds = λ q e.
        let w = mapped (raise 0) (slice_get k.pipes d) q (sym (slice_get-map (raise 0) k.pipes d) ∙ e) in
        rw w.2 (l.moved b 1 w.0 (raise 0 w.0) (raises 0 w.0 (omega arith) (how d)) (h.holds w.0 w.1));
  }
  does_lift i _ _ _ b _ h = record { holds = λ p e. l.more b (b + i) p (omega arith) (h.holds p e) }

  pub lift : (n s b : ℕ) (k : Parts) → Walk a old n s k → At P d b old → At P d (b + n) k
  lift _ _ b _ start h = record { holds = λ p e. l.more b (b + 0) p (omega arith) (h.holds p e) }
  lift _ _ b _ (next m n s u i j k x few g does w) h =
      let after : At P d (b + m + i) x = does_lift i j k x (b + m) does (lift m s b k w h) in
      record { holds = λ p e. l.more (b + m + i) (b + n) p (omega (arith, few are)) (after.holds p e) }
