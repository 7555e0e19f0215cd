use Rattle.std.proofs.Common.{◌≡◌, ℕ, suc, List, [], ◌++◌, ◌+◌, ◌-◌, ◌*◌, ◌<◌, ◌≤◌, length, refl, ap, ◌∙◌, arith}
use Rattle.evm_debug.specs.Views.{four_registers, register_lines}

-- no line is left
pub register_lines-none : (r n : ℕ) (regs : List ℕ) → n ≡ 0 → register_lines r n regs ≡ []
unfolding register_lines
register_lines-none r n regs e = rw e refl

-- one more line
pub register_lines-more : (i end : ℕ) (regs : List ℕ) → i < end → register_lines (i * 4) (end - i) regs ≡ four_registers (i * 4) regs ++ register_lines ((i + 1) * 4) (end - (i + 1)) regs
unfolding register_lines
register_lines-more i end regs h =
    let e : end - i ≡ suc (end - (i + 1)) = omega arith in
    let four : (i + 1) * 4 ≡ i * 4 + 4 = omega arith in
    rw (e, four) refl
