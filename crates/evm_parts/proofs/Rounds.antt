-- One more round of waits that end, and that no round follows the last.
use Rattle.std.proofs.Common.{◌≡◌, ℕ, zero, suc, ◌+◌, ◌-◌, ◌≤◌, None, refl, add-one, arith}
use Rattle.evm_model.specs.Deadlines.{end_next, end_rounds, next_due}
use Rattle.evm_model.specs.State.{Parts}

pub end-none : (c : ℕ) (k : Parts) → end_rounds c 0 k ≡ k
unfolding end_rounds
end-none c k = refl

pub end-more : (c n : ℕ) (k : Parts) → end_rounds c (n + 1) k ≡ end_next (next_due c (end_rounds c n k)) (end_rounds c n k)
unfolding end_rounds
end-more c n k = rw add-one refl

end-after : (c n m : ℕ) (k : Parts) → next_due c (end_rounds c n k) ≡ None → end_rounds c (m + n) k ≡ end_rounds c n k
unfolding end_rounds
end-after c n zero k e = let same : 0 + n ≡ n = omega arith in rw same refl
end-after c n (suc m) k e =
    let before : end_rounds c (m + n) k ≡ end_rounds c n k = end-after c n m k e in
    let more : suc m + n ≡ suc (m + n) = omega arith in
    rw (more, before, e) refl

-- once no deadline has come, further rounds change nothing
pub end-early : (c n count : ℕ) (k : Parts) → n ≤ count → next_due c (end_rounds c n k) ≡ None → end_rounds c count k ≡ end_rounds c n k
end-early c n count k less e =
    let at : count ≡ count - n + n = omega (arith, less) in
    rw at (end-after c n (count - n) k e)

pub ruleset rounds = (end-none, end-more, end-early)
