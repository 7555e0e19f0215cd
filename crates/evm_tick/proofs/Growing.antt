-- An expiry stays within 64 bits.
use Rattle.std.proofs.Common.{ℕ, ◌+◌, ◌-◌, ◌*◌, ◌/◌, ◌<◌, ◌≤◌, arith}
use Rattle.std.proofs.Math.Nat.{add-mul, div-mul-le_self, le-mul_of_pos_right}

-- the ticks of the expiries that were missed
pub span-most : (now due period : ℕ) → 0 < period → due ≤ now → (1 + (now - due) / period) * period ≤ period + (now - due)
span-most now due period some past = omega (arith, add-mul 1 ((now - due) / period) period, div-mul-le_self (now - due) period)

pub span-least : (missed period : ℕ) → 0 < period → missed ≤ missed * period
span-least missed period some = le-mul_of_pos_right missed some

pub ruleset spans = (span-most, span-least)
