use Rattle.std.proofs.Common.{◌≡◌, ◌<◌, length}
use Rattle.std.specs.Prelude.{remove}
use Rattle.evm_ready.proofs.queue.Queue.remove_at.Given as goal

-- what is left without the one at i is what is wanted
abbrev pub invariant-loop-i : goal.invariant-loop-i
invariant-loop-i l = record { within : l.i < length l.self; left : remove l.self l.i ≡ remove l.fn.self l.place }

abbrev pub decreases-loop-i : goal.decreases-loop-i
decreases-loop-i l = l.i
