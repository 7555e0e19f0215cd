-- A sleep leaves the state good but for what its processor settles.
use Rattle.std.proofs.Common.{ℕ, refl}
use Rattle.std.specs.Prelude.{nat_le}
use Rattle.evm_model.specs.Deadlines.{sleep_until}
use Rattle.evm_model.specs.Good.{IsOwn}
use Rattle.evm_model.specs.State.{Parts}
use Rattle.evm_model.specs.declared.task.Wait.TheVariants.{Sleep}
use Rattle.law_rules.proofs.Done.{IsDone, either, rests-done}
use Rattle.law_rules.proofs.Firsts.{IsOobOwn}
use Rattle.law_rules.proofs.Settling.{GoodBut}

pub sleep_until-done : (c t : ℕ) (k : Parts) → GoodBut c k → IsOwn c t k.tasks → (until : ℕ) → IsOobOwn c t k.tasks → IsDone c t (sleep_until c t until k)
unfolding sleep_until
sleep_until-done c t k g o until w = either c t (nat_le until k.ticks) _ _ (λ e. record { but = g; own = λ v n. o }) (λ e. rests-done c t k g o w Sleep until refl refl)
