use Rattle.std.proofs.Common.{refl}
use Rattle.evm_parts.proofs.Expiries.{wake-ticks}
use Rattle.evm_parts.proofs.parts.Parts.expire_to.Goals as goal

pub returns-in-Some-clause-ticks : goal.returns-in-Some-clause-ticks
returns-in-Some-clause-ticks c = rw (c.wake.ensures.row, wake-ticks, c.put_timer-in-Some.ensures.row) refl
