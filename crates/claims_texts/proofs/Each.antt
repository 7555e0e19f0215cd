-- Each li and each la of a source is one that the laws of both are about.
use Rattle.std.proofs.Common.{◌≡◌, ◌∙◌, ℕ, ◌+◌, ◌-◌, ◌%◌, ◌≤◌, List, Some, Result, Ok, take, ap, subst, arith}
use Rattle.std.proofs.lemmas.Result.{IfOk-at_ok}
use Rattle.evm_elf.specs.evm_asm_lexer.declared.source_fault.SourceFaultKind.{SourceFaultKind}
use Rattle.evm_elf.specs.evm_asm_lexer.declared.mnemonic.Section.{Section as Part}
use Rattle.evm_elf.specs.evm_asm_lexer.declared.mnemonic.Section.TheVariants.{Text, Data}
use Rattle.evm_elf.specs.evm_asm_parser.declared.statement.Statement.{Statement}
use Rattle.evm_elf.specs.evm_asm_parser.declared.statement.Statement.TheVariants.{LoadImmediate, LoadAddress}
use Rattle.evm_elf.specs.evm_asm.Items.{address, address_of_offset, expanded, load_address, load_address_by, load_immediate, layout_of}
use Rattle.evm_elf.specs.evm_asm.Loading.{LoadsImmediate, LoadsAddress}
use Rattle.evm_elf.specs.evm_asm.Places.{load_size}
use Rattle.evm_elf.specs.evm_asm.Sizes.{Says, place_before, size_of_text}
use Rattle.evm_elf.specs.evm_asm.Sources.{code_of, source_lines, statement_text}
use Rattle.evm_elf.specs.evm_asm.declared.item.Expansion.{Expansion}
use Rattle.evm_exec.specs.Numbers.{extended}
use Rattle.claims_texts.specs.Pseudo.{EachLiLoads, EachLaLoads, OperandsAreInRange, expansion_after, loaded}
use Rattle.claims_texts.proofs.Loaded.{li_leaves_its_number, la_leaves_its_address}
use Rattle.claims_texts.proofs.Limits.{all_bounded}
use Rattle.claims_texts.proofs.Statements_read.{CanLoad, statement_in_loads}

can_load : (source : List ℕ) (n : ℕ) (statement : Statement) → Says source n statement → CanLoad statement
can_load source n statement says =
    IfOk-at_ok CanLoad says.reads
    (statement_in_loads (layout_of source).labels (place_before source n) (statement_text (code_of says.line)) (all_bounded (source_lines source)).labels)

pub same_expansion : (a b : Expansion) → ◌≡◌ {A = Result Expansion SourceFaultKind} (Ok a) (Ok b) → a ≡ b
same_expansion a b e = cc

pub operands_are_in_range : OperandsAreInRange
operands_are_in_range source n rd = (
  (λ value says. let can : CanLoad (LoadImmediate rd value) = can_load source n (LoadImmediate rd value) says in (can.0, can.1.0, can.1.1)),
  (λ target says. (can_load source n (LoadAddress rd target) says).0),
)

pub each_li_loads : LoadsImmediate → EachLiLoads
unfolding expanded
each_li_loads law source n rd value expansion hart b registers =
    let fits : CanLoad (LoadImmediate rd value) = can_load source n (LoadImmediate rd value) b.says in
    let is : load_immediate rd value ≡ expansion = same_expansion _ expansion b.becomes in
    subst (λ (e : Expansion). expansion_after e hart ≡ Some (loaded rd (extended value) (load_size value) hart)) is
    (li_leaves_its_number law rd value hart (omega (arith, fits.0)) fits.1.0 fits.1.1)

-- where a label can be
address_near : (text_size offset : ℕ) (part : Part) → text_size ≤ 8388608 → offset ≤ 8388608
    → (2147483648 ≤ address_of_offset text_size part offset) × (address_of_offset text_size part offset ≤ 2164264959)
address_near text_size offset Text h k = (omega arith, omega arith)
address_near text_size offset Data h k = (omega arith, omega arith)

pub each_la_loads : LoadsAddress → EachLaLoads
unfolding expanded load_address
each_la_loads law source n rd spot expansion hart b registers pc =
    let fits : CanLoad (LoadAddress rd (Some spot)) = can_load source n (LoadAddress rd (Some spot)) b.says in
    let target : ℕ = address (size_of_text source) spot in
    let whole = all_bounded (source_lines source) in
    let before = all_bounded (take (n - 1) (source_lines source)) in
    let near = address_near (size_of_text source) spot.offset spot.section whole.place.text fits.1 in
    let is : load_address_by rd ((target + 4294967296 - hart.pc) % 4294967296) ≡ expansion =
    ap (λ (at : ℕ). load_address_by rd ((target + 4294967296 - at) % 4294967296)) pc ∙ same_expansion _ expansion b.becomes in
    subst (λ (e : Expansion). expansion_after e hart ≡ Some (loaded rd target 8 hart)) is
    (la_leaves_its_address law rd target hart (omega (arith, fits.0)) (omega (arith, near.0)) (omega (arith, near.0)) (omega arith) (omega (arith, near.1)))
