use Rattle.std.proofs.Common.{length}
use Rattle.evm_shared.proofs.worker.+least_refusal.Given as goal

abbrev pub decreases-least_refusal : goal.decreases-least_refusal
decreases-least_refusal g l = length l.workers.now
