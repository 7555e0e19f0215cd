use Rattle.std.proofs.Common.{◌≡◌, ◌++◌, List, ℕ, length}
use Rattle.evm_streams.specs.Writes.{Took}
use Rattle.evm_streams.proofs.writes.write_all.Given as goal

-- a prefix was taken by calls, and the rest is left
abbrev pub invariant-calls : goal.invariant-calls
invariant-calls g l = (prefix : List ℕ) × (l.text ≡ prefix ++ l.rest) × Took g.W.Sink.takes l.fn.sink prefix l.sink

abbrev pub decreases-calls : goal.decreases-calls
decreases-calls g l = length l.rest
