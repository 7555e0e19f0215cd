use Rattle.std.proofs.Common.{◌≡◌, true, Some, refl}
use Rattle.evm_model.specs.declared.errno.Errno.TheVariants.{NotPermitted, NoSuchTask, TryAgain, NoNumber, Busy, Invalid, Deadlock, NoSuchCall, TimedOut}
use Rattle.hunt_failures.specs.Failures.{error_in, is_answered}
use Rattle.hunt_failures.proofs.calls.error_of.Goals as goal

pub returns : goal.returns
returns c e = elim e as (λ k. error_in c.args.errors.now k ≡ true → is_answered c.args.pc k (Some c.args.hart.now) ≡ true → ⊥) [
  | NotPermitted ↦ c.if-is_wanted.ensures.none refl
  | NoSuchTask ↦ c.if-is_wanted-2.ensures.none refl
  | TryAgain ↦ c.if-is_wanted-3.ensures.none refl
  | NoNumber ↦ c.if-is_wanted-4.ensures.none refl
  | Busy ↦ c.if-is_wanted-5.ensures.none refl
  | Invalid ↦ c.if-is_wanted-6.ensures.none refl
  | Deadlock ↦ c.if-is_wanted-7.ensures.none refl
  | NoSuchCall ↦ c.if-is_wanted-8.ensures.none refl
  | TimedOut ↦ c.if-is_wanted-9.ensures.none refl
]
