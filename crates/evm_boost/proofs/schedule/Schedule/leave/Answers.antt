use Rattle.std.proofs.Common.{refl}
use Rattle.evm_boost.proofs.Passing.{fallen-settling, idle-as, idle-settling, leave-settling}
use Rattle.evm_model.specs.Mutexes.{freed}
use Rattle.evm_boost.proofs.schedule.Schedule.leave.Goals as goal

pub mend-requires : goal.mend-requires
mend-requires c =
    idle-settling freed _ _ _ _ _ c.args.m (λ mutex. refl) c.requires c.leave.ensures refl refl refl refl (idle-as freed _ _ c.args.m (λ mutex. refl) (c.is_idle.ensures c.if-is_idle.true))

pub mend-requires-2 : goal.mend-requires-2
mend-requires-2 c =
    rw c.fallen_owner-fallen.ensures
    (fallen-settling _ _ _ _ _ c.args.m _ c.requires c.leave-2.ensures refl refl
    (leave-settling _ _ _ _ _ c.args.m _ c.requires c.leave-2.ensures c.owner-owner.ensures refl refl refl refl))
