-- Pins that are looked at one after the other: what a device of the tests does.
use Rattle.std.proofs.Common.{◌≡◌, ℕ, ◌+◌, Bool, false, ◌||◌, refl, add-one}
use Rattle.evm_dev.specs.Pins.{any_pin}

pub none-seen : (test : ℕ → Bool) → any_pin test 0 ≡ false
unfolding any_pin
none-seen test = refl

pub one-more-seen : (test : ℕ → Bool) (pins : ℕ) → any_pin test (pins + 1) ≡ (test pins || any_pin test pins)
unfolding any_pin
one-more-seen test pins = rw add-one refl

pub ruleset pin_rules = (none-seen, one-more-seen)
