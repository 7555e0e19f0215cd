-- One more signal of an event, and that none follows the last.
use Rattle.std.proofs.Common.{◌≡◌, ℕ, zero, suc, ◌+◌, ◌-◌, ◌≤◌, None, refl, add-one, arith}
use Rattle.evm_model.specs.Events.{signal_first, signal_rounds}
use Rattle.evm_model.specs.State.{Parts}
use Rattle.evm_model.specs.Waits.{first_waiter}
use Rattle.evm_model.specs.declared.task.Wait.TheVariants.{Event}

pub signal-none : (e : ℕ) (k : Parts) → signal_rounds e 0 k ≡ k
unfolding signal_rounds
signal-none e k = refl

pub signal-more : (e n : ℕ) (k : Parts) → signal_rounds e (n + 1) k ≡ signal_first e (signal_rounds e n k)
unfolding signal_rounds
signal-more e n k = rw add-one refl

signal-nobody : (e : ℕ) (k : Parts) → first_waiter (Event e) k ≡ None → signal_first e k ≡ k
unfolding signal_first
signal-nobody e k none = rw none refl

signal-after : (e n m : ℕ) (k : Parts) → first_waiter (Event e) (signal_rounds e n k) ≡ None → signal_rounds e (m + n) k ≡ signal_rounds e n k
unfolding signal_rounds
signal-after e n zero k none = let same : 0 + n ≡ n = omega arith in rw same refl
signal-after e n (suc m) k none =
    let before : signal_rounds e (m + n) k ≡ signal_rounds e n k = signal-after e n m k none in
    let more : suc m + n ≡ suc (m + n) = omega arith in
    rw (more, before) (signal-nobody e (signal_rounds e n k) none)

-- once no task waits, further signals change nothing
signal-early : (e n count : ℕ) (k : Parts) → n ≤ count → first_waiter (Event e) (signal_rounds e n k) ≡ None → signal_rounds e count k ≡ signal_rounds e n k
signal-early e n count k less none =
    let at : count ≡ count - n + n = omega (arith, less) in
    rw at (signal-after e n (count - n) k none)

-- .. nor did the last
pub signal-last : (e n count : ℕ) (k : Parts) → n ≤ count → first_waiter (Event e) (signal_rounds e n k) ≡ None
    → signal_first e (signal_rounds e n k) ≡ signal_rounds e count k
signal-last e n count k less none = rw (signal-early e n count k less none) (signal-nobody e (signal_rounds e n k) none)

pub ruleset signals = (signal-none, signal-more, signal-last)
