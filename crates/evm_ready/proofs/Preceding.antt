-- The order of a queue is one of all tasks.
use Rattle.std.proofs.Common.{◌≡◌, ℕ, List, true, false, arith}
use Rattle.std.proofs.lemmas.Bool.Decides.{nat_tests}
use Rattle.evm_ready.specs.declared.turn.Turn.{Turn}
use Rattle.evm_ready.specs.Queues.{is_ahead, precedes, turn_rank, turn_stamp}

pub ahead-trans : (r s t q p u l k v : ℕ) → is_ahead r s t q p u ≡ true → is_ahead q p u l k v ≡ true → is_ahead r s t l k v ≡ true
ahead-trans r s t q p u l k v first second = grind (arith, nat_tests)

pub ahead-not_both : (r s t q p u : ℕ) → is_ahead r s t q p u ≡ true → is_ahead q p u r s t ≡ false
ahead-not_both r s t q p u first = grind (arith, nat_tests)

pub ahead-total : (r s t q p u : ℕ) → (t ≡ u → ⊥) → is_ahead r s t q p u ≡ false → is_ahead q p u r s t ≡ true
ahead-total r s t q p u other h = grind (arith, nat_tests)

pub ahead-itself : (r s t : ℕ) → is_ahead r s t r s t ≡ false
ahead-itself r s t = grind (arith, nat_tests)

pub precedes-trans : (turns : List Turn) (t u v : ℕ) → precedes turns t u ≡ true → precedes turns u v ≡ true → precedes turns t v ≡ true
unfolding precedes
precedes-trans turns t u v first second = ahead-trans (turn_rank turns t) (turn_stamp turns t) t (turn_rank turns u) (turn_stamp turns u) u (turn_rank turns v) (turn_stamp turns v) v first second

pub precedes-not_both : (turns : List Turn) (t u : ℕ) → precedes turns t u ≡ true → precedes turns u t ≡ false
unfolding precedes
precedes-not_both turns t u first = ahead-not_both (turn_rank turns t) (turn_stamp turns t) t (turn_rank turns u) (turn_stamp turns u) u first

pub precedes-total : (turns : List Turn) (t u : ℕ) → (t ≡ u → ⊥) → precedes turns t u ≡ false → precedes turns u t ≡ true
unfolding precedes
precedes-total turns t u other h = ahead-total (turn_rank turns t) (turn_stamp turns t) t (turn_rank turns u) (turn_stamp turns u) u other h

pub precedes-itself : (turns : List Turn) (t : ℕ) → precedes turns t t ≡ false
unfolding precedes
precedes-itself turns t = ahead-itself (turn_rank turns t) (turn_stamp turns t) t
