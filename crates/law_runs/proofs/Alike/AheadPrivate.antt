-- A Step of a private row changes one hart, which is one row further.
use Rattle.std.proofs.Common.{◌≡◌, ℕ, List, Bool, true, false, not, ◌&&◌, Option, Some, None, refl, ap, sym, ◌∙◌}
use Rattle.std.specs.Prelude.{slice_get, slice_set, if◌then◌else◌, nat_le, nat_lt}
use Rattle.evm_isa.specs.Decoded.{decoded}
use Rattle.evm_isa.specs.declared.inst.Inst.{Inst}
use Rattle.evm_lines.specs.Lines.{least_line}
use Rattle.evm_exec.specs.Does.{does}
use Rattle.evm_exec.specs.declared.hart.Hart.{Hart}
use Rattle.evm_exec.specs.declared.outcome.Effect.{Effect}
use Rattle.evm_exec.specs.declared.outcome.Effect.TheVariants.{Next}
use Rattle.evm_model.proofs.Lists.{change-same}
use Rattle.evm_model.specs.Commands.{is_set}
use Rattle.evm_model.specs.Harts.{set_register, set_pc}
use Rattle.evm_model.specs.Instructions.{finish, execute_inst, execute_word, execute}
use Rattle.evm_model.specs.Memory.{fetch}
use Rattle.evm_model.specs.Pipes.{Pipe}
use Rattle.evm_model.specs.Rows.{run, step, row}
use Rattle.evm_model.specs.Settle.{settle_and_nudge}
use Rattle.evm_model.specs.State.{Board, Memory, Parts, on_processor, on_parts}
use Rattle.evm_model.specs.declared.event.Answer.TheVariants.{Ran}
use Rattle.evm_model.specs.declared.event.Event.TheVariants.{Step}
use Rattle.evm_model.specs.declared.processor.Processor.{Processor}
use Rattle.law_runs.specs.Ahead.{private_effect, private_inst, private_word, private_hart, text, actor_now, actor_on, actor_among, actor, skips, IsAtTask}

-- ---- whose instruction comes
pub record Acts (c t : ℕ) (b : Board) : Type 0 where
  pub processor : Processor
  pub at : slice_get b.parts.processors c ≡ Some processor
  pub goes : processor.stopped ≡ false
  pub pipe : Pipe
  pub there : slice_get b.parts.pipes c ≡ Some pipe
  pub clear : least_line pipe.wire ≡ None
  pub runs : processor.current ≡ Some t

now-runs : (o : Option ℕ) (p : Processor) (t : ℕ) → actor_now o p ≡ Some t → (o ≡ None) × (p.current ≡ Some t)
now-runs None p t e = (refl, e)
now-runs (Some l) p t e = cc

pipe-runs : (o : Option Pipe) (p : Processor) (t : ℕ) → actor_on o p ≡ Some t → (pipe : Pipe) × (o ≡ Some pipe) × (least_line pipe.wire ≡ None) × (p.current ≡ Some t)
pipe-runs None p t e = cc
pipe-runs (Some pipe) p t e = let now = now-runs (least_line pipe.wire) p t e in (pipe, refl, now.0, now.1)

goes-on : (stopped : Bool) (o : Option ℕ) (t : ℕ) → (if stopped then None else o) ≡ Some t → (stopped ≡ false) × (o ≡ Some t)
goes-on true o t e = cc
goes-on false o t e = (refl, e)

processor-runs : (c t : ℕ) (b : Board) (o : Option Processor) → slice_get b.parts.processors c ≡ o → actor_among o (slice_get b.parts.pipes c) ≡ Some t → Acts c t b
processor-runs c t b None f e = cc
processor-runs c t b (Some p) f e =
    let on = goes-on p.stopped (actor_on (slice_get b.parts.pipes c) p) t e in let there = pipe-runs (slice_get b.parts.pipes c) p t on.1 in
    record { processor = p; at = f; goes = on.0; pipe = there.0; there = there.1; clear = there.2; runs = there.3 }

pub acts : (c t : ℕ) (b : Board) → actor c b ≡ Some t → Acts c t b
acts c t b e = processor-runs c t b (slice_get b.parts.processors c) refl e

-- ---- its Step
-- the board with one hart other
abbrev pub with_hart : ℕ → Hart → Board → Board
with_hart t hart b = record b { parts = record b.parts { harts = slice_set b.parts.harts t hart } }

finish-private : (effect : Effect) (hart next : Hart) (c t : ℕ) (b : Board) → private_effect effect hart ≡ Some next → slice_get b.parts.harts t ≡ Some hart → finish effect c t b ≡ with_hart t next b
unfolding finish
finish-private (Next rd value pc) hart next c t b e h =
    let is : set_pc pc (set_register rd value hart) ≡ next = cc in rw (h, is) refl
finish-private _ hart next c t b e h = cc

inst-private : (o : Option Inst) (hart next : Hart) (c t : ℕ) (b : Board) → private_inst o hart ≡ Some next → slice_get b.parts.harts t ≡ Some hart → execute_inst o hart c t b ≡ with_hart t next b
inst-private None hart next c t b e h = cc
inst-private (Some inst) hart next c t b e h = finish-private (does inst hart.regs hart.pc) hart next c t b e h

word-private : (o : Option ℕ) (hart next : Hart) (c t : ℕ) (b : Board) → private_word o hart ≡ Some next → slice_get b.parts.harts t ≡ Some hart → execute_word o hart c t b ≡ with_hart t next b
word-private None hart next c t b e h = cc
word-private (Some word) hart next c t b e h = inst-private (decoded word) hart next c t b e h

executes : (hart next : Hart) (c t : ℕ) (b : Board) → private_word (fetch hart.pc b.memory) hart ≡ Some next → slice_get b.parts.harts t ≡ Some hart → execute hart c t b ≡ with_hart t next b
unfolding execute
executes hart next c t b e h = word-private (fetch hart.pc b.memory) hart next c t b e h

skip-same : (c : ℕ) (b : Board) (p : Processor) → slice_get b.parts.processors c ≡ Some p → p.skip ≡ false → on_parts (on_processor c (λ p. record p { skip = false })) b ≡ b
skip-same c b p e f =
    ap (λ (processors : List Processor). record b { parts = record b.parts { processors = processors } })
    (change-same (λ (p : Processor). record p { skip = false }) b.parts.processors c (λ q g. let it : p ≡ q = cc in rw (← it) (ap (λ (s : Bool). record p { skip = s }) (sym f))))

module _ (c t : ℕ) (b : Board) (is : IsAtTask c t b) where
  run-private : (p : Processor) (hart next : Hart) → slice_get b.parts.processors c ≡ Some p → p.skip ≡ false → private_word (fetch hart.pc b.memory) hart ≡ Some next → slice_get b.parts.harts t ≡ Some hart
      → run hart c t b ≡ (with_hart t next b, Ran t)
  run-private p hart next e f g h =
      let first : execute hart c t (on_parts (on_processor c (λ p. record p { skip = false })) b) ≡ with_hart t next b = ap (execute hart c t) (skip-same c b p e f) ∙ executes hart next c t b g h in
      let rest : on_parts (settle_and_nudge (Some t) c) (with_hart t next b) ≡ with_hart t next b = ap (λ (parts : Parts). record b { parts = parts }) (is.rests (slice_set b.parts.harts t next)) in
      ap (λ (x : Board). (on_parts (settle_and_nudge (Some t) c) x, Ran t)) first ∙ ap (λ (x : Board). (x, Ran t)) rest

  pub step-private : (hart next : Hart) → private_word (fetch hart.pc b.memory) hart ≡ Some next → slice_get b.parts.harts t ≡ Some hart → row (Step c) b ≡ (with_hart t next b, Ran t)
  unfolding row step
  step-private hart next g h =
      let now = acts c t b is.acts in
      let unskipped : now.processor.skip ≡ false = ap skips (sym now.at) ∙ is.unskipped in
      let passes : (is_set b.breakpoints hart.pc && not now.processor.skip) ≡ false = ap (λ addresses. is_set addresses hart.pc && not now.processor.skip) is.unbroken in
      rw (now.at, now.goes, now.there, now.clear, now.runs, h, passes) (run-private now.processor hart next now.at unskipped g h)

-- ---- the text
word-inside : (inside : Bool) (o : Option ℕ) (hart next : Hart) → private_word (if inside then o else None) hart ≡ Some next → private_word o hart ≡ Some next
word-inside true o hart next e = e
word-inside false o hart next e = cc

-- a private row of the text is one of the words that are fetched
pub fetched : (low high : ℕ) (m : Memory) (hart next : Hart) → private_hart (text low high m) (Some hart) ≡ Some next → private_word (fetch hart.pc m) hart ≡ Some next
fetched low high m hart next e = word-inside (nat_le low hart.pc && nat_lt hart.pc high) (fetch hart.pc m) hart next e
