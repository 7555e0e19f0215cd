-- A text without addresses: no store hits it.
use Rattle.std.proofs.Common.{◌≡◌, ℕ, ◌+◌, ◌≤◌, Bool, true, false, ◌||◌, Option, Some, None, refl, arith}
use Rattle.std.specs.Prelude.{nat_le}
use Rattle.std.proofs.lemmas.Bool.Decides.{nat_tests}
use Rattle.evm_isa.specs.Decoded.{decoded}
use Rattle.evm_isa.specs.declared.inst.Inst.{Inst}
use Rattle.evm_exec.specs.Does.{does}
use Rattle.evm_exec.specs.declared.hart.Hart.{Hart}
use Rattle.evm_exec.specs.declared.outcome.Effect.{Effect}
use Rattle.evm_exec.specs.declared.outcome.Effect.TheVariants.{Next, Load, Store, Call, Break, Misaligned}
use Rattle.evm_ram.specs.Width.{bytes_of}
use Rattle.evm_ram.specs.declared.width.Width.{Width}
use Rattle.evm_ram.specs.declared.width.Width.TheVariants.{Byte, Half, Word, Double}
use Rattle.evm_model.specs.Memory.{fetch}
use Rattle.evm_model.specs.State.{Memory}
use Rattle.law_runs.specs.Sparing.{effect_spares, inst_spares, spares_text, word_spares}

few-bytes : (width : Width) → bytes_of width ≤ 8
few-bytes Byte = omega arith
few-bytes Half = omega arith
few-bytes Word = omega arith
few-bytes Double = omega arith

one-or-other : (a b : Bool) → (a ≡ false → b ≡ true) → (a || b) ≡ true
one-or-other true b h = refl
one-or-other false b h = h refl

misses : (address size : ℕ) → size ≤ 8 → (nat_le (address + size) 16 || nat_le 3 address) ≡ true
misses address size few = one-or-other (nat_le (address + size) 16) (nat_le 3 address) (λ past. grind (arith, nat_tests))

none-effect : (effect : Effect) → effect_spares 16 0 effect ≡ true
none-effect (Next rd value pc) = refl
none-effect (Load op rd address) = refl
none-effect (Store width address value) = misses address (bytes_of width) (few-bytes width)
none-effect Call = refl
none-effect Break = refl
none-effect Misaligned = refl

none-inst : (inst : Option Inst) (hart : Hart) → inst_spares 16 0 inst hart ≡ true
none-inst None hart = refl
none-inst (Some inst) hart = none-effect (does inst hart.regs hart.pc)

none-word : (word : Option ℕ) (hart : Hart) → word_spares 16 0 word hart ≡ true
none-word None hart = refl
none-word (Some word) hart = none-inst (decoded word) hart

pub none-spares : (low high : ℕ) (memory : Memory) (hart : Option Hart) → low ≡ 16 → high ≡ 0 → spares_text low high memory hart ≡ true
none-spares low high memory None first last = refl
none-spares low high memory (Some hart) first last = rw (first, last) (none-word (fetch hart.pc memory) hart)
