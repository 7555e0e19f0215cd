-- What li and la leave in their register, by the arithmetic of the instructions that they become.
use Rattle.std.specs.Prelude.{◌≡◌, ℕ, ◌+◌, ◌-◌, ◌%◌, ◌<◌, ◌≤◌, nat_lt, if◌then◌else◌, ℤ, pos, negsuc, ◌≤ℤ◌}
use Rattle.evm_isa.specs.declared.inst.ImmediateOp.TheVariants.{Addi, Addiw}
use Rattle.evm_isa.specs.declared.inst.Inst.{Inst}
use Rattle.evm_isa.specs.declared.inst.Inst.TheVariants.{Lui, Auipc, Immediate}
use Rattle.evm_asm.specs.Items.{load_immediate, load_address_by}
use Rattle.evm_asm.specs.declared.item.Expansion.{Expansion}
use Rattle.evm_asm.specs.declared.item.Expansion.TheVariants.{Empty, Single, Double}

-- a signed number in 64 bits
abbrev pub in_register : ℤ → ℕ
in_register (pos n) = n % 18446744073709551616
in_register (negsuc n) = 18446744073709551615 - n

-- the low 32 bits of a number, sign-extended to 64
abbrev pub low_extended : ℕ → ℕ
low_extended n =
    if nat_lt (n % 4294967296) 2147483648 then n % 4294967296 else n % 4294967296 + 18446744069414584320

-- What an instruction at an address puts into its register, where its source, if it has one, has the value a.
abbrev pub put_by : Inst → ℕ → ℕ → ℕ
put_by (Lui rd i) at a = in_register i
put_by (Auipc rd i) at a = (at + in_register i) % 18446744073709551616
put_by (Immediate Addi rd rs1 i) at a = (a + in_register i) % 18446744073709551616
put_by (Immediate Addiw rd rs1 i) at a = low_extended (a + in_register i)
put_by inst at a = a

-- What an expansion at an address leaves in its register: the first instruction has no source but x0, the second
-- that register.
abbrev pub left_in_register : Expansion → ℕ → ℕ
left_in_register Empty at = 0
left_in_register (Single i) at = put_by i at 0
left_in_register (Double i j) at = put_by j (at + 4) (put_by i at 0)

-- What li loads: every 32-bit number.
abbrev pub LoadsImmediate : Type 0
LoadsImmediate = (rd at : ℕ) (value : ℤ) → negsuc 2147483647 ≤ℤ value → value ≤ℤ pos 2147483647 → left_in_register (load_immediate rd value) at ≡ in_register value

-- What la loads: every address that isn't too far from the instruction.
abbrev pub LoadsAddress : Type 0
LoadsAddress = (rd at target : ℕ) → at ≤ target + 2147483648 → target < at + 2147481600 → at < 18446744073709551616 → target < 18446744073709551616
    → left_in_register (load_address_by rd ((target + 4294967296 - at) % 4294967296)) at ≡ target
