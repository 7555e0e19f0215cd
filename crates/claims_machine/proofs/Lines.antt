-- The line of no device.
use Rattle.std.proofs.Common.{◌≡◌, ℕ, List, Bool, true, false, inl, inr, refl, arith}
use Rattle.std.specs.Prelude.{nat_le, ◌==◌, ◌&&◌}
use Rattle.std.proofs.lemmas.Bool.Decides.{nat_tests}
use Rattle.evm_model.specs.Devices.{Attached}
use Rattle.law_runs.specs.Balance.{is_device_line}
use Rattle.claims_machine.specs.Raising.{NoDevicesLine}

none_first : (a b : Bool) → a ≡ false → (a && b) ≡ false
none_first a b e = rw e refl

none_last : (a b : Bool) → b ≡ false → (a && b) ≡ false
none_last true b e = e
none_last false b e = refl

pub is_none : (c l : ℕ) (devices : List Attached) → NoDevicesLine c l devices → is_device_line c l devices ≡ false
is_none c l devices (inl other) = none_first (0 == c) _ (grind (arith, nat_tests))
is_none c l devices (inr (inl low)) = none_last (0 == c) _ (none_first (nat_le 2 l) _ (grind (arith, nat_tests)))
is_none c l devices (inr (inr high)) = none_last (0 == c) _ (none_last (nat_le 2 l) _ (grind (arith, nat_tests)))
