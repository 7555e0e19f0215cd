use Rattle.std.proofs.Common.{refl}
use Rattle.evm_boost.proofs.Moves.{class-settling}
use Rattle.evm_boost.proofs.schedule.Schedule.clear_policy.Goals as goal

pub mend-requires : goal.mend-requires
mend-requires c = class-settling _ _ _ _ _ _ c.args.t (λ task. refl) (λ task. refl) (λ task. refl) c.requires c.clear_policy.ensures refl refl refl refl
