use Rattle.std.proofs.Common.{◌≡◌}
use Rattle.evm_model.specs.Ranks.{first}
use Rattle.evm_ready.specs.Places.{entry, runs_in_band, place_stamp}
use Rattle.evm_ready.proofs.ready.Ready.next_of_all.Given as goal

-- the one that leads is the first of those so far
abbrev pub invariant-loop-t : goal.invariant-loop-t
invariant-loop-t l = l.leading ≡ first (λ t. runs_in_band l.c (entry l.self.places t)) (λ _. 0) (λ t. place_stamp (entry l.self.places t)) l.t
