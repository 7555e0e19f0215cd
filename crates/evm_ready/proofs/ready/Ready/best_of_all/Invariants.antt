use Rattle.std.proofs.Common.{◌≡◌}
use Rattle.evm_model.specs.Ranks.{first}
use Rattle.evm_ready.specs.Places.{entry, runs_oob, place_stamp}
use Rattle.evm_ready.specs.ListedRanks.{listed_rank}
use Rattle.evm_ready.proofs.ready.Ready.best_of_all.Given as goal

-- the one that leads is the first of those so far
abbrev pub invariant-loop-t : goal.invariant-loop-t
invariant-loop-t l = l.leading ≡ first (λ t. runs_oob l.c (entry l.self.places t)) (listed_rank l.self.ranks) (λ t. place_stamp (entry l.self.places t)) l.t
