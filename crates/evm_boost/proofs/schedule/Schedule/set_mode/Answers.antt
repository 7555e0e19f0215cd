use Rattle.std.proofs.Common.{refl}
use Rattle.evm_boost.proofs.Moves.{same-settling}
use Rattle.evm_boost.proofs.schedule.Schedule.set_mode.Goals as goal

pub mend-requires : goal.mend-requires
mend-requires c =
    same-settling _ _ _ _ _ _ c.args.t (λ task. refl) (λ task. refl) (λ task. refl) (λ task. refl) c.requires c.set_mode.ensures refl refl refl refl
