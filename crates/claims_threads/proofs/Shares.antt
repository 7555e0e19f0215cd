-- What ports have made.
use Rattle.std.proofs.Common.{◌≡◌, List, [], ◌∷◌, refl, arith}
use Rattle.std.proofs.lemmas.List.Sums.{sum_by-cons}
use Rattle.std.specs.Prelude.{sum_by}
use Rattle.evm_shared.specs.Ports.{PortValue, made_by}

pub steps_made : (ports : List PortValue) → (made_by ports).steps ≡ sum_by (λ (p : PortValue). p.share.steps) ports
steps_made [] = refl
steps_made (p ∷ ports) = omega (arith, steps_made ports, sum_by-cons (λ (q : PortValue). q.share.steps) p ports)

pub bells_made : (ports : List PortValue) → (made_by ports).bells ≡ sum_by (λ (p : PortValue). p.share.bells) ports
bells_made [] = refl
bells_made (p ∷ ports) = omega (arith, bells_made ports, sum_by-cons (λ (q : PortValue). q.share.bells) p ports)

pub others_made : (ports : List PortValue) → (made_by ports).others ≡ sum_by (λ (p : PortValue). p.share.others) ports
others_made [] = refl
others_made (p ∷ ports) = omega (arith, others_made ports, sum_by-cons (λ (q : PortValue). q.share.others) p ports)
