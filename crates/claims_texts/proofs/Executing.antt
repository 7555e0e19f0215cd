-- A task that comes to a line executes what the line becomes.
use Rattle.std.proofs.Common.{◌≡◌, ◌∙◌, ◌↔◌, ℕ, ◌+◌, ◌-◌, ◌%◌, ◌<◌, ◌^◌, inl, inr, Bool, true, false, cond, List, Option, Some, Ok, All, take, ℤ, refl, ap, sym, subst, arith}
use Rattle.std.specs.Prelude.{slice_get, slice_set, slice_index_or}
use Rattle.std.proofs.lemmas.List.{set-set}
use Rattle.std.proofs.lemmas.Option.{same_Some, option_and_then_some}
use Rattle.evm_isa.specs.Decoded.{decoded}
use Rattle.evm_isa.specs.Table.{Row}
use Rattle.evm_isa.specs.declared.inst.Inst.{Inst}
use Rattle.evm_isa.specs.declared.inst.Inst.TheVariants.{Lui, Auipc}
use Rattle.evm_elf.specs.evm_asm_parser.declared.spot.Spot.{Spot}
use Rattle.evm_elf.specs.evm_asm_parser.declared.statement.Statement.{Statement}
use Rattle.evm_elf.specs.evm_asm_parser.declared.statement.Statement.TheVariants.{LoadImmediate, LoadAddress}
use Rattle.evm_elf.specs.evm_asm.Assembled.{Assembled, IsWorded, program_of}
use Rattle.evm_elf.specs.evm_asm.Items.{address, expanded, load_address, load_immediate}
use Rattle.evm_elf.specs.evm_asm.Places.{is_small, needs_low_part, low_word, high_part, load_size}
use Rattle.evm_elf.specs.evm_asm.Sources.{source_lines}
use Rattle.evm_elf.specs.evm_asm.ProgramLaws.{LinesAreWorded}
use Rattle.evm_elf.specs.evm_asm.Sizes.{AllThatIsMeantStands, IsAmong, address_of_line, size_of_text}
use Rattle.evm_elf.specs.evm_asm.declared.item.Expansion.{Expansion}
use Rattle.evm_elf.specs.evm_asm.declared.item.Expansion.TheVariants.{Empty, Single, Double}
use Rattle.evm_elf.specs.evm_asm.declared.output.ProgramLine.{ProgramLine}
use Rattle.evm_exec.specs.Does.{does, hart_after}
use Rattle.evm_exec.specs.Numbers.{extended}
use Rattle.evm_exec.specs.Values.{sum}
use Rattle.evm_exec.specs.declared.hart.Hart.{Hart}
use Rattle.evm_exec.specs.declared.outcome.Effect.{Effect}
use Rattle.evm_exec.specs.declared.outcome.Effect.TheVariants.{Next, Load, Store, Call, Break, Misaligned}
use Rattle.evm_model.specs.Harts.{set_register, set_pc}
use Rattle.evm_model.specs.Instructions.{finish}
use Rattle.evm_model.specs.Lists.{change_some}
use Rattle.evm_model.specs.State.{Memory, Board, Parts, on_hart, on_parts}
use Rattle.evm_model.proofs.Lists.{slice_get-set_same}
use Rattle.claims_texts.specs.Expansions.{all_executed, ComesTo, EachLiIsExecuted, EachLaIsExecuted}
use Rattle.claims_texts.specs.Pseudo.{Becomes, instruction_after, expansion_after, loaded, EachLiLoads, EachLaLoads}
use Rattle.claims_texts.specs.Running.{HasLine, IsAtLine, execute_task}
use Rattle.claims_texts.proofs.Doing.{executes}
use Rattle.claims_texts.proofs.Each.{same_expansion}
use Rattle.claims_texts.proofs.Limits.{all_bounded}

-- the first of two instructions goes on to the word behind it
abbrev GoesOn : Expansion → Type 0
GoesOn Empty = ⊥
GoesOn (Single i) = Unit {0}
GoesOn (Double i j) = (hart middle : Hart) → instruction_after i hart ≡ Some middle → middle.pc ≡ sum hart.pc 4

-- task t has another hart
with_hart : ℕ → Hart → Board → Board
with_hart t hart b = on_parts (λ (k : Parts). record k { harts = slice_set k.harts t hart }) b

-- the hart of task t changed, where it is known
change_known : (t : ℕ) (f : Hart → Hart) (hart : Hart) (b : Board) → slice_get b.parts.harts t ≡ Some hart → on_parts (on_hart t f) b ≡ with_hart t (f hart) b
unfolding with_hart
change_known t f hart b there =
    ap (λ (o : Option Hart). on_parts (λ (k : Parts). record k { harts = change_some o f k.harts t }) b) there

-- what touches nothing but the hart
by_effect : (e : Effect) (c t : ℕ) (hart : Hart) (b : Board) (after : Hart) → slice_get b.parts.harts t ≡ Some hart → hart_after hart e ≡ Some after
    → finish e c t b ≡ with_hart t after b
unfolding finish
by_effect (Next rd value pc) c t hart b after there e =
    change_known t (λ h. set_pc pc (set_register rd value h)) hart b there ∙ ap (λ (h : Hart). with_hart t h b) (same_Some _ after e)
by_effect (Load op rd address) c t hart b after there e = cc
by_effect (Store width address value) c t hart b after there e = cc
by_effect Call c t hart b after there e = cc
by_effect Break c t hart b after there e = cc
by_effect Misaligned c t hart b after there e = cc

-- the word of an instruction stands at an address
record Stands (memory : Memory) (address : ℕ) (i : Inst) : Type 0 where
  pub line : ProgramLine
  pub worded : IsWorded line
  pub word : HasLine memory line
  pub at : line.address ≡ address
  pub is : line.instruction ≡ i

module _ (law : (w : ℕ) (i : Inst) → w < 2 ^ 32 → (decoded w ≡ Some i) ↔ Row i w) where
  alone : (i : Inst) (c t : ℕ) (hart : Hart) (b : Board) (after : Hart) → slice_get b.parts.harts t ≡ Some hart → Stands b.memory hart.pc i
      → instruction_after i hart ≡ Some after → execute_task c t b ≡ with_hart t after b
  alone i c t hart b after there s e =
      let l = s.line in
      let is_at : IsAtLine l t hart b = record { there = there; pc = sym s.at; word = s.word } in
      executes law l s.worded c t hart b is_at
      ∙ ap (λ (a : ℕ). finish (does l.instruction hart.regs a) c t b) s.at
      ∙ ap (λ (j : Inst). finish (does j hart.regs hart.pc) c t b) s.is
      ∙ by_effect (does i hart.regs hart.pc) c t hart b after there e

  pair : (i j : Inst) (c t : ℕ) (hart : Hart) (b : Board) (middle after : Hart) → slice_get b.parts.harts t ≡ Some hart → Stands b.memory hart.pc i → Stands b.memory middle.pc j
      → instruction_after i hart ≡ Some middle → instruction_after j middle ≡ Some after → execute_task c t (execute_task c t b) ≡ with_hart t after b
  unfolding with_hart
  pair i j c t hart b middle after there s r e f =
      ap (execute_task c t) (alone i c t hart b middle there s e)
      ∙ alone j c t middle (with_hart t middle b) after (slice_get-set_same b.parts.harts t hart middle there) r f
      ∙ ap (λ (harts : List Hart). on_parts (λ (k : Parts). record k { harts = harts }) b) (set-set b.parts.harts t middle after)

  all : (e : Expansion) (first c t : ℕ) (hart : Hart) (b : Board) (after : Hart) → GoesOn e → first + 4 < 18446744073709551616 → hart.pc ≡ first
      → slice_get b.parts.harts t ≡ Some hart → ((a : ℕ) (i : Inst) → IsAmong e first i a → Stands b.memory a i) → expansion_after e hart ≡ Some after
      → all_executed e c t b ≡ with_hart t after b
  all Empty first c t hart b after on small pc there s e = absurd on
  all (Single i) first c t hart b after on small pc there s e = alone i c t hart b after there (s hart.pc i (refl, pc)) e
  all (Double i j) first c t hart b after on small pc there s e =
      option_and_then_some (instruction_after j) (instruction_after i hart) after e
      (λ middle p q. pair i j c t hart b middle after there (s hart.pc i (inl (refl, pc)))
      (let goes : middle.pc ≡ sum hart.pc 4 = on hart middle p in s middle.pc j (inr (refl, omega arith))) p q)

  -- what a line of a source becomes
  module _ (stand : AllThatIsMeantStands) (worded : LinesAreWorded) where
    stands : (source : List ℕ) (p : Assembled) (n : ℕ) (statement : Statement) (e : Expansion) (memory : Memory) → program_of source ≡ Ok p → Becomes source n statement e
        → All (HasLine memory) p.lines → (a : ℕ) (i : Inst) → IsAmong e (address_of_line source n) i a → Stands memory a i
    stands source p n statement e memory is b words a i among =
        let any = stand source p is n a i (record { statement = statement; expansion = e; says = b.says; becomes = b.becomes; stands = among }) in
        record {
          line = slice_index_or p.lines any.0 any.1;
          worded = worded source p is any.0 any.1 any.2;
          word = words any.0 any.1 any.2;
          at = ap (λ (l : ProgramLine). l.address) any.3 ∙ any.4.1;
          is = ap (λ (l : ProgramLine). l.instruction) any.3 ∙ any.4.2;
        }

    pub line_executed : (source : List ℕ) (p : Assembled) (n : ℕ) (statement : Statement) (e : Expansion) (c t : ℕ) (hart : Hart) (b : Board) (f : Hart → Hart)
        → Becomes source n statement e → GoesOn e → ComesTo source p n t hart b → expansion_after e hart ≡ Some (f hart) → all_executed e c t b ≡ on_parts (on_hart t f) b
    line_executed source p n statement e c t hart b f becomes on h is =
        let near = (all_bounded (take (n - 1) (source_lines source))).place.text in
        all e (address_of_line source n) c t hart b (f hart) on (omega (arith, near)) h.pc h.there (stands source p n statement e b.memory h.assembled becomes h.words) is
        ∙ sym (change_known t f hart b h.there)

-- ---- li and la

lui_goes : (rd : ℕ) (i : ℤ) (hart middle : Hart) → instruction_after (Lui rd i) hart ≡ Some middle → middle.pc ≡ sum hart.pc 4
unfolding does
lui_goes rd i hart middle e = sym (ap (λ (h : Hart). h.pc) (same_Some _ middle e))

auipc_goes : (rd : ℕ) (i : ℤ) (hart middle : Hart) → instruction_after (Auipc rd i) hart ≡ Some middle → middle.pc ≡ sum hart.pc 4
unfolding does
auipc_goes rd i hart middle e = sym (ap (λ (h : Hart). h.pc) (same_Some _ middle e))

either_goes : (t : Bool) (a b : Expansion) → GoesOn a → GoesOn b → GoesOn (cond t a b)
either_goes true a b h k = h
either_goes false a b h k = k

li_goes : (source : List ℕ) (n rd : ℕ) (value : ℤ) (e : Expansion) → Becomes source n (LoadImmediate rd value) e → GoesOn e
unfolding expanded load_immediate
li_goes source n rd value e b =
    subst GoesOn (same_expansion _ e b.becomes)
    (either_goes (is_small value) _ _ tt (either_goes (needs_low_part (low_word value)) _ _ (lui_goes rd (high_part (low_word value))) tt))

la_goes : (source : List ℕ) (n rd : ℕ) (spot : Spot) (e : Expansion) → Becomes source n (LoadAddress rd (Some spot)) e → GoesOn e
unfolding expanded load_address
la_goes source n rd spot e b =
    subst GoesOn (same_expansion _ e b.becomes) (auipc_goes rd (high_part ((address (size_of_text source) spot + 4294967296 - address_of_line source n) % 4294967296)))

module _ (law : (w : ℕ) (i : Inst) → w < 2 ^ 32 → (decoded w ≡ Some i) ↔ Row i w) (stand : AllThatIsMeantStands) (worded : LinesAreWorded) where
  pub each_li_is_executed : EachLiLoads → EachLiIsExecuted
  each_li_is_executed loads source p n rd value e becomes c t hart b h =
      line_executed law stand worded source p n (LoadImmediate rd value) e c t hart b (loaded rd (extended value) (load_size value)) becomes (li_goes source n rd value e becomes) h
      (loads source n rd value e hart becomes h.registers)

  pub each_la_is_executed : EachLaLoads → EachLaIsExecuted
  each_la_is_executed loads source p n rd spot e becomes c t hart b h =
      line_executed law stand worded source p n (LoadAddress rd (Some spot)) e c t hart b (loaded rd (address (size_of_text source) spot) 8) becomes (la_goes source n rd spot e becomes) h
      (loads source n rd spot e hart becomes h.registers h.pc)
