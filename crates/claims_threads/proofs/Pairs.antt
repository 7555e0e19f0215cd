-- Workers, and the ports and takers that they are made of.
use Rattle.std.proofs.Common.{◌≡◌, ℕ, ◌*◌, ◌≤◌, List, [], ◌∷◌, ◌++◌, ap, refl, subst, sym, ◌∙◌, arith}
use Rattle.evm_bells.specs.Batches.{Batch, count}
use Rattle.evm_bells.specs.Seats.{BellsValue, IsNewTaker, TakerValue}
use Rattle.evm_shared.specs.Ports.{PortValue, fresh_port}
use Rattle.evm_shared.specs.Workers.{WorkerValue}
use Rattle.claims_threads.specs.Said.{IsSaidWithRoom, SaysTaken, SayTaken}

-- a new port says what a new taker has taken
pub new_says : (b : BellsValue) (receipts since : ℕ) (t : TakerValue) → IsNewTaker b.id t → SaysTaken (fresh_port receipts since) t
new_says b receipts since t new = record {
  lines = λ c l low. ap (λ (batches : List Batch). count batches c l) new.1;
  bells = refl;
}

pub new_worker : (b : BellsValue) (n turns since : ℕ) (p : PortValue) (t : TakerValue) (w : WorkerValue) → p ≡ fresh_port (2 * turns) since → n ≤ since → IsNewTaker b.id t → w.port ≡ p → w.taker ≡ t
    → IsSaidWithRoom b n turns w
new_worker b n turns since p t w fresh late new port taker =
    let says = new_says b (2 * turns) since t new in
    let its : w.port ≡ fresh_port (2 * turns) since = port ∙ fresh in (
      (ap (λ (u : TakerValue). u.bells) taker ∙ new.0, subst (λ (q : PortValue). SaysTaken q w.taker) (sym its) (subst (SaysTaken (fresh_port (2 * turns) since)) (sym taker) says), omega (arith, late, ap (λ (q : PortValue). q.since) its)),
      omega (arith, ap (λ (q : PortValue). q.room) its),
    )

-- pairs, with another behind them
pub one_more : (ports : List PortValue) (takers : List TakerValue) (p : PortValue) (t : TakerValue) → SayTaken ports takers → SaysTaken p t → SayTaken (ports ++ p ∷ []) (takers ++ t ∷ [])
one_more [] [] p t pairs says = (says, tt)
one_more (q ∷ ports) (u ∷ takers) p t pairs says = (pairs.0, one_more ports takers p t pairs.1 says)
one_more [] (u ∷ takers) p t pairs says = absurd pairs
one_more (q ∷ ports) [] p t pairs says = absurd pairs
