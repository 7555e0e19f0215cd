-- An instruction at a multiple of 4 goes on to one.
use Rattle.std.proofs.Common.{◌≡◌, ℕ, ◌+◌, ◌%◌, ◌^◌, List, Bool, true, false, refl, arith}
use Rattle.std.specs.Prelude.{◌==◌, if◌then◌else◌}
use Rattle.evm_isa.specs.declared.inst.Inst.{Inst}
use Rattle.evm_isa.specs.declared.inst.Inst.TheVariants.{Lui, Auipc, Jal, Jalr, Branch, Load, Store, Immediate, Shift, Register, Word, Fence, Ecall, Ebreak}
use Rattle.evm_exec.specs.Does.{does, jump_to, branch_if}
use Rattle.evm_exec.specs.Registers.{register_of}
use Rattle.evm_exec.specs.Values.{sum, is_taken}
use Rattle.evm_exec.specs.declared.outcome.Effect.{Effect}
use Rattle.evm_exec.specs.declared.outcome.Effect.TheVariants.{Next, Misaligned}
use Rattle.law_rules.proofs.Firsts.{eqb-is}

abbrev pub IsAligned : Effect → Type 0
IsAligned (Next rd value pc) = pc % 4 ≡ 0
IsAligned _ = Unit {0}

-- the next word
pub next-aligned : (pc : ℕ) → pc % 4 ≡ 0 → (pc + 4) % 2 ^ 64 % 4 ≡ 0
next-aligned pc h = omega arith

arrive-if : (rd value target : ℕ) (b : Bool) → (target % 4 == 0) ≡ b → IsAligned (if b then Next rd value target else Misaligned)
arrive-if rd value target true e = eqb-is (target % 4) 0 e
arrive-if rd value target false e = tt

arrive-aligned : (rd value target : ℕ) → IsAligned (jump_to rd value target)
arrive-aligned rd value target = arrive-if rd value target (target % 4 == 0) refl

branch-aligned : (b : Bool) (target pc : ℕ) → pc % 4 ≡ 0 → IsAligned (branch_if b target pc)
branch-aligned true target pc h = arrive-aligned 0 0 target
branch-aligned false target pc h = next-aligned pc h

pub does-aligned : (inst : Inst) (x : List ℕ) (pc : ℕ) → pc % 4 ≡ 0 → IsAligned (does inst x pc)
unfolding does
does-aligned (Lui rd i) x pc h = next-aligned pc h
does-aligned (Auipc rd i) x pc h = next-aligned pc h
does-aligned (Jal rd i) x pc h = arrive-aligned rd (sum pc 4) _
does-aligned (Jalr rd rs1 i) x pc h = arrive-aligned rd (sum pc 4) _
does-aligned (Branch op rs1 rs2 i) x pc h = branch-aligned (is_taken op (register_of x rs1) (register_of x rs2)) _ pc h
does-aligned (Load op rd rs1 i) x pc h = tt
does-aligned (Store op rs1 rs2 i) x pc h = tt
does-aligned (Immediate op rd rs1 i) x pc h = next-aligned pc h
does-aligned (Shift op rd rs1 n) x pc h = next-aligned pc h
does-aligned (Register op rd rs1 rs2) x pc h = next-aligned pc h
does-aligned (Word op rd rs1 rs2) x pc h = next-aligned pc h
does-aligned (Fence rd rs1 fields) x pc h = next-aligned pc h
does-aligned Ecall x pc h = tt
does-aligned Ebreak x pc h = tt
