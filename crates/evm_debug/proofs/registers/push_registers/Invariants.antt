use Rattle.std.proofs.Common.{◌≡◌, ◌≤◌, ◌++◌, ◌+◌, ◌-◌, ◌*◌, ℕ, List}
use Rattle.std.specs.String.{string_bytes, string_capacity, string_len}
use Rattle.evm_debug.specs.Views.{register_lines, register_rows}
use Rattle.evm_debug.proofs.registers.push_registers.Given as goal

-- a front of the text is appended, the lines that are left are the rest, and there is room for them
abbrev pub invariant-loop-line : goal.invariant-loop-line
invariant-loop-line l = record {
  told : (front : List ℕ) × (string_bytes l.out ≡ string_bytes l.fn.out ++ front) × (front ++ register_lines (l.line * 4) (8 - l.line) l.hart.regs ≡ register_rows l.hart.regs);
  len : string_len l.out ≡ string_len l.fn.out + 84 * l.line;
  room : string_len l.out + 84 * (8 - l.line) ≤ string_capacity l.out;
  capacity : string_capacity l.fn.out ≤ string_capacity l.out;
}
