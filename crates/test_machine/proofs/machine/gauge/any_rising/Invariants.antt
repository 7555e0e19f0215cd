use Rattle.std.proofs.Common.{◌≡◌}
use Rattle.evm_dev.specs.Pins.{any_pin, is_rising}
use Rattle.test_machine.proofs.machine.gauge.any_rising.Given as goal

-- the pins so far
abbrev pub invariant-loop-pin : goal.invariant-loop-pin
invariant-loop-pin l = l.any ≡ any_pin (is_rising l.mask l.before l.after) l.pin
