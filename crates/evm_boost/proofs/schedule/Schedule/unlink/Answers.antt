use Rattle.evm_boost.proofs.Moves.{unlinked-settling}
use Rattle.evm_boost.proofs.schedule.Schedule.unlink.Goals as goal

pub mend-requires : goal.mend-requires
mend-requires c = rw c.fallen_owner-fallen.ensures (unlinked-settling _ _ _ c.args.t _ c.requires.relinked c.requires.alone)
