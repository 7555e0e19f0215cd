-- Whose instruction comes next on a processor, and what it does.
use Rattle.std.proofs.Common.{◌≡◌, ℕ, ◌<◌, ◌≤◌, List, [], ◌∷◌, Option, Some, None, Bool, true, false, ◌&&◌, ◌||◌, ◌+◌, refl, ap, ◌∙◌, arith}
use Rattle.std.specs.Prelude.{if◌then◌else◌, nat_le, nat_lt}
use Rattle.std.proofs.lemmas.Bool.Decides.{nat_tests}
use Rattle.evm_core.specs.Views.{wire_of}
use Rattle.evm_isa.specs.Decoded.{decoded}
use Rattle.evm_isa.specs.declared.inst.Inst.{Inst}
use Rattle.evm_exec.specs.Does.{does}
use Rattle.evm_exec.specs.declared.hart.Hart.{Hart}
use Rattle.evm_exec.specs.declared.outcome.Effect.{Effect}
use Rattle.evm_exec.specs.declared.outcome.Effect.TheVariants.{Next, Load, Store, Call, Break, Misaligned}
use Rattle.evm_lines.specs.Lines.{least_line}
use Rattle.evm_ram.specs.Width.{bytes_of}
use Rattle.evm_ram.specs.declared.width.Width.{Width}
use Rattle.evm_model.specs.Harts.{set_register, set_pc}
use Rattle.evm_model.specs.Memory.{fetch}
use Rattle.evm_model.specs.Pipes.{Pipe}
use Rattle.evm_model.specs.State.{Memory}
use Rattle.evm_model.specs.declared.processor.Processor.{Processor}
use Rattle.law_runs.specs.Ahead.{actor_among, actor_now, actor_on, private_effect, private_hart, private_inst, private_word, text}
use Rattle.law_runs.specs.Sparing.{effect_spares, inst_spares, spares_text, word_spares}
use Rattle.hunt_space.specs.Effects.{effect_at, effect_in, effect_of_inst, effect_of_word, is_private, spares_effect}

-- ---- the wire
pub quiet-wire : (o : Option Pipe) (wire : List ℕ) (p : Processor) → wire_of o ≡ Some wire → wire ≡ [] → actor_on o p ≡ p.current
quiet-wire None wire p e none = cc
quiet-wire (Some pipe) wire p e none = let same : pipe.wire ≡ [] = cc in ap (λ (lines : List ℕ). actor_now (least_line lines) p) same

loud-lines : (wire : List ℕ) (p : Processor) → (wire ≡ [] → ⊥) → actor_now (least_line wire) p ≡ None
loud-lines [] p some = absurd (some refl)
loud-lines (l ∷ wire) p some = refl

pub loud-wire : (o : Option Pipe) (wire : List ℕ) (p : Processor) → wire_of o ≡ Some wire → (wire ≡ [] → ⊥) → actor_on o p ≡ None
loud-wire None wire p e some = refl
loud-wire (Some pipe) wire p e some = loud-lines pipe.wire p (λ none. let same : wire ≡ [] = cc in some same)

pub no-wire : (o : Option Pipe) (p : Processor) → wire_of o ≡ None → actor_on o p ≡ None
no-wire None p e = refl
no-wire (Some pipe) p e = cc

-- ---- the processor
pub no-processor : (o : Option Processor) (q : Option Pipe) → o ≡ None → actor_among o q ≡ None
no-processor o q e = rw e refl

pub stopped-none : (o : Option Processor) (q : Option Pipe) (p : Processor) → o ≡ Some p → p.stopped ≡ true → actor_among o q ≡ None
stopped-none o q p e stops = rw (e, stops) refl

pub running : (o : Option Processor) (q : Option Pipe) (p : Processor) → o ≡ Some p → p.stopped ≡ false → actor_among o q ≡ actor_on q p
running o q p e runs = rw (e, runs) refl

-- ---- the effect
inst-spared : (low high : ℕ) (inst : Option Inst) (hart : Hart) → spares_effect low high (effect_of_inst inst hart) ≡ inst_spares low high inst hart
inst-spared low high None hart = refl
inst-spared low high (Some inst) hart = refl

word-spared : (low high : ℕ) (word : Option ℕ) (hart : Hart) → spares_effect low high (effect_of_word word hart) ≡ word_spares low high word hart
word-spared low high None hart = refl
word-spared low high (Some word) hart = inst-spared low high (decoded word) hart

pub effect-spared : (low high : ℕ) (memory : Memory) (hart : Option Hart) → spares_effect low high (effect_in memory hart) ≡ spares_text low high memory hart
effect-spared low high memory None = refl
effect-spared low high memory (Some hart) = word-spared low high (fetch hart.pc memory) hart

-- ---- private rows
by-effect : (effect : Effect) (hart : Hart) → is_private (Some effect) ≡ true → (next : Hart) × (private_effect effect hart ≡ Some next)
by-effect (Next rd value pc) hart e = (set_pc pc (set_register rd value hart), refl)
by-effect (Load op rd address) hart e = cc
by-effect (Store width address value) hart e = cc
by-effect Call hart e = cc
by-effect Break hart e = cc
by-effect Misaligned hart e = cc

by-inst : (inst : Option Inst) (hart : Hart) → is_private (effect_of_inst inst hart) ≡ true → (next : Hart) × (private_inst inst hart ≡ Some next)
by-inst None hart e = cc
by-inst (Some inst) hart e = by-effect (does inst hart.regs hart.pc) hart e

by-word : (word : Option ℕ) (hart : Hart) → is_private (effect_of_word word hart) ≡ true → (next : Hart) × (private_word word hart ≡ Some next)
by-word None hart e = cc
by-word (Some word) hart e = by-inst (decoded word) hart e

inside : (low high pc : ℕ) → low ≤ pc → pc < high → (nat_le low pc && nat_lt pc high) ≡ true
inside low high pc behind before = grind (arith, nat_tests)

pub by-hart : (low high : ℕ) (memory : Memory) (o : Option Hart) (hart : Hart) → o ≡ Some hart → low ≤ hart.pc → hart.pc < high → is_private (effect_at memory hart) ≡ true
    → (next : Hart) × (private_hart (text low high memory) o ≡ Some next)
by-hart low high memory o hart there behind before e =
    let found = by-word (fetch hart.pc memory) hart e in
    (found.0, rw there (ap (λ (b : Bool). private_word (if b then fetch hart.pc memory else None) hart) (inside low high hart.pc behind before) ∙ found.1))

-- ---- stores
either-true : (a b : Bool) → b ≡ true → (a || b) ≡ true
either-true true b e = refl
either-true false b e = e

pub ends-behind : (low high : ℕ) (width : Width) (address value : ℕ) → address + bytes_of width ≤ low → effect_spares low high (Store width address value) ≡ true
ends-behind low high width address value h =
    let e : nat_le (address + bytes_of width) low ≡ true = grind (arith, nat_tests) in ap (λ (b : Bool). b || nat_le (high + 3) address) e

pub begins-before : (low high : ℕ) (width : Width) (address value : ℕ) → high + 3 ≤ address → effect_spares low high (Store width address value) ≡ true
begins-before low high width address value h = either-true (nat_le (address + bytes_of width) low) (nat_le (high + 3) address) (grind (arith, nat_tests))
