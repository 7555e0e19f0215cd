-- What a source means has its words, so it is spelled without a fault.
use Rattle.std.proofs.Common.{ℕ, ◌<◌, ◌≤◌, false, ◌==◌, not, List, Option, Some, None, Ok, Err, IfOk, pos, negsuc, arith, ◌≡◌, zero, suc, ◌+◌, ◌-◌, ◌/◌, ◌%◌, Bool, true, cond, ◌&&◌, nat_le, nat_lt, ℤ, neg_ℤ, refl, ◌∙◌, ◌↔◌, [], ◌∷◌, is_ok, Result, IsOk, All, ap}
use Rattle.std.proofs.lemmas.Bool.{leb-true, ltb-true, ltb-false, eqb-true, and_parts}
use Rattle.std.proofs.lemmas.Int.{ints}
use Rattle.std.proofs.lemmas.List.Elements.{All-nil, All-push, All-head, All-tail}
use Rattle.std.proofs.lemmas.Result.{IfOk-at_ok}
use Rattle.evm_isa.specs.declared.inst.ImmediateOp.TheVariants.{Addi, Addiw, Sltiu, Xori}
use Rattle.evm_isa.specs.declared.inst.RegisterOp.TheVariants.{Sub, Slt, Sltu}
use Rattle.evm_isa.specs.declared.inst.ShiftOp.{ShiftOp}
use Rattle.evm_isa.specs.declared.inst.ShiftOp.TheVariants.{Slli, Srli, Srai, Slliw, Srliw, Sraiw}
use Rattle.evm_isa.specs.declared.inst.WordOp.TheVariants.{Subw}
use Rattle.evm_isa.specs.Encoded.{amounts}
use Rattle.evm_asm.specs.evm_asm_lexer.declared.source_fault.SourceFaultKind.TheVariants.{BadToken, RangeOfImmediate}
use Rattle.evm_asm.specs.evm_asm_lexer.declared.mnemonic.BareOp.{BareOp}
use Rattle.evm_asm.specs.evm_asm_lexer.declared.mnemonic.BareOp.TheVariants.{Fence, Ecall, Ebreak, Nop, Ret}
use Rattle.evm_asm.specs.evm_asm_lexer.declared.mnemonic.UnaryOp.{UnaryOp}
use Rattle.evm_asm.specs.evm_asm_lexer.declared.mnemonic.UnaryOp.TheVariants.{Mv, Not, Neg, Negw, SextW, Seqz, Snez, Sltz, Sgtz}
use Rattle.evm_asm.specs.evm_asm_lexer.declared.mnemonic.Mnemonic.{Mnemonic}
use Rattle.evm_asm.specs.evm_asm_lexer.Text.{skip_blanks, first_word, behind_word, starts_with, is_name_start, is_empty, is_sound}
use Rattle.evm_asm.specs.evm_asm_lexer.Names.{mnemonic_named}
use Rattle.evm_asm.specs.evm_asm_lexer.declared.source_fault.SourceFault.{SourceFault}
use Rattle.evm_asm.specs.evm_asm_lexer.declared.mnemonic.Section.{Section as Part}
use Rattle.evm_asm.specs.evm_asm_lexer.declared.mnemonic.DataWidth.{DataWidth}
use Rattle.evm_asm.specs.evm_asm_lexer.Faults.{◌>>=◌}
use Rattle.evm_asm.specs.evm_asm_parser.declared.statement.Statement.{Statement}
use Rattle.evm_asm.specs.evm_asm_parser.declared.statement.Statement.TheVariants.{Nothing, One, Branch, Jump, LoadImmediate, LoadAddress, Section, Numbers, Space, Align}
use Rattle.evm_asm.specs.evm_asm_parser.Operands.{Spots, how_many, name_in, label_in, first_operand, other_operands}
use Rattle.evm_asm.specs.evm_asm_parser.Forms.{Slot, Register, Integer, Natural, Upper, Label, Address, FullAddress, Name, Value, greatest_shift, bare_instruction, unary_instruction, form}
use Rattle.evm_asm.specs.evm_asm_parser.Statements.{name_or_fault, operand_in, statement_of}
use Rattle.evm_asm.proofs.evm_asm_parser.Outcomes.{any_ok, either_ok, also_ok, tested_ok, read_ok}
use Rattle.evm_asm.proofs.evm_asm_parser.Forms_hold.{Makes, either_makes, statement_holds}
use Rattle.evm_asm.specs.evm_asm_parser.declared.spot.Spot.{Spot}
use Rattle.evm_asm.specs.declared.place.SectionPlace.{SectionPlace}
use Rattle.evm_asm.specs.Places.{placed, of_mnemonic, statement_in, is_small, low_word, low_part, high_part, needs_low_part, offset, padding, place_behind, is_text}
use Rattle.claims_texts.specs.Wording.{HasWord, HasItsWord, EveryItemHasItsWord, SpellingNeverFails, RefusedAsMeant}
use Rattle.evm_asm.specs.declared.item.Expansion.{Expansion}
use Rattle.evm_asm.specs.declared.item.Expansion.TheVariants.{Empty, Single, Double}
use Rattle.evm_asm.specs.Items.{address, distance, distance_to, load_immediate, load_address_by, load_address, expanded, text_base, with_item, with_instructions, value_in, number_pushed, with_numbers, filling, operands, with_statement, statement_meant, line_meant, meaning_or_fault, and_then, line_or_fault, lines_meant, layout_of, meaning_of}
use Rattle.evm_asm.specs.declared.item.SourceItem.{SourceItem}
use Rattle.evm_asm.specs.declared.item.SourceItem.TheVariants.{Instruction, Number, Zeros, Nops}
use Rattle.evm_asm.specs.declared.item.Placed.{Placed}
use Rattle.evm_asm.specs.Sources.{Laid, source_start, source_lines, code_of, statement_text}
use Rattle.evm_asm.specs.Programs.{Spelled, nothing_spelled, with_word, worded, spelled_item, spelled}
use Rattle.evm_asm.specs.Assembled.{Assembled, assembled, program_of}
use Rattle.evm_asm.proofs.Operands_in_range.{IsRegister, zero_register, register_below, IsFrom, integer_within}
use Rattle.claims_texts.proofs.Words_in_range.{twelve_bits, address_within, full_address_within, natural_in_to, upper_in_within, IsWithin, IsMultiple, lui_word, auipc_word, jalr_word, load_word, store_word, immediate_word, shift_word, register_word, word_word, fence_word, ecall_word, ebreak_word, minus_within, upper_within, jal_word, branch_word}
use Rattle.evm_asm.proofs.Results.{and_then_if_ok, told_ok}
use Rattle.evm_asm.specs.evm_asm_lexer.declared.mnemonic.Mnemonic.TheVariants as names
use Rattle.evm_isa.specs.declared.inst.Inst.TheVariants as inst
use Rattle.evm_asm.specs.evm_asm_lexer.declared.mnemonic.Section.TheVariants as section

-- ---- a statement that is read has registers below 32 and immediates in range

-- An instruction has a word; the others have their registers.
abbrev pub IsFit : Statement → Type 0
IsFit (One i) = HasWord i
IsFit (Branch op rs1 rs2 target) = IsRegister rs1 × IsRegister rs2
IsFit (Jump rd target) = IsRegister rd
IsFit (LoadImmediate rd value) = IsRegister rd
IsFit (LoadAddress rd target) = IsRegister rd
IsFit other = Unit {0}

-- What is read in a place: a register is below 32, a number in its range.
abbrev Fits : (slot : Slot) → Value slot → Type 0
Fits Register r = IsRegister r
Fits (Integer below above) n = IsFrom below above n
Fits (Natural above) n = n ≤ above
Fits Upper n = IsMultiple 4096 2147483648 n
Fits Label target = Unit {0}
Fits Address a = IsWithin 2048 a.0 × IsRegister a.1
Fits FullAddress a = IsWithin 2048 a.0 × IsRegister a.1
Fits Name name = Unit {0}

operand_fits : (labels : Spots) (slot : Slot) (text : List ℕ) → IfOk (operand_in labels slot text) (Fits slot)
operand_fits labels Register text = register_below text
operand_fits labels (Integer below above) text = integer_within below above text
operand_fits labels (Natural above) text = natural_in_to above text
operand_fits labels Upper text = upper_in_within text
operand_fits labels Label text = any_ok (label_in labels text)
operand_fits labels Address text = address_within text
operand_fits labels FullAddress text = full_address_within text
operand_fits labels Name text = any_ok (name_or_fault (name_in text))

below_amounts : (op : ShiftOp) (n : ℕ) → n ≤ greatest_shift op → n < amounts op
below_amounts Slli n h = omega arith
below_amounts Srli n h = omega arith
below_amounts Srai n h = omega arith
below_amounts Slliw n h = omega arith
below_amounts Srliw n h = omega arith
below_amounts Sraiw n h = omega arith

bare_worded : (op : BareOp) → HasWord (bare_instruction op)
bare_worded Fence = fence_word 0 0 255 zero_register zero_register (omega arith)
bare_worded Ecall = ecall_word
bare_worded Ebreak = ebreak_word
bare_worded Nop = immediate_word Addi 0 0 (pos 0) zero_register zero_register (omega arith)
bare_worded Ret = jalr_word 0 1 (pos 0) zero_register (omega arith) (omega arith)

unary_worded : (op : UnaryOp) (rd rs : ℕ) → IsRegister rd → IsRegister rs → HasWord (unary_instruction op rd rs)
unary_worded Mv rd rs p q = immediate_word Addi rd rs (pos 0) p q (omega arith)
unary_worded Not rd rs p q = immediate_word Xori rd rs (negsuc 0) p q (omega arith)
unary_worded Neg rd rs p q = register_word Sub rd 0 rs p zero_register q
unary_worded Negw rd rs p q = word_word Subw rd 0 rs p zero_register q
unary_worded SextW rd rs p q = immediate_word Addiw rd rs (pos 0) p q (omega arith)
unary_worded Seqz rd rs p q = immediate_word Sltiu rd rs (pos 1) p q (omega arith)
unary_worded Snez rd rs p q = register_word Sltu rd 0 rs p zero_register q
unary_worded Sltz rd rs p q = register_word Slt rd rs 0 p q zero_register
unary_worded Sgtz rd rs p q = register_word Slt rd 0 rs p zero_register q

-- each row of the table makes what is fit
forms_fit : (count : ℕ) (m : Mnemonic) → Makes Fits IsFit (form count m)
forms_fit count (names.Register op) = λ v h. register_word op v.0 v.1.0 v.1.1 h.0 h.1.0 h.1.1
forms_fit count (names.Word op) = λ v h. word_word op v.0 v.1.0 v.1.1 h.0 h.1.0 h.1.1
forms_fit count (names.Immediate op) = λ v h. immediate_word op v.0 v.1.0 v.1.1 h.0 h.1.0 (twelve_bits v.1.1 h.1.1)
forms_fit count (names.Shift op) = λ v h. shift_word op v.0 v.1.0 v.1.1 h.0 h.1.0 (below_amounts op v.1.1 h.1.1)
forms_fit count (names.Load op) = λ v h. load_word op v.0 v.1.1 v.1.0 h.0 h.1.1 h.1.0
forms_fit count (names.Store op) = λ v h. store_word op v.1.1 v.0 v.1.0 h.1.1 h.0 h.1.0
forms_fit count (names.Branch op) = λ v h. (h.0, h.1.0)
forms_fit count names.Lui = λ v h. lui_word v.0 v.1 h.0 h.1
forms_fit count names.Auipc = λ v h. auipc_word v.0 v.1 h.0 h.1
forms_fit count names.Jal = either_makes Fits IsFit (count == 1) _ _ (λ v h. omega arith) (λ v h. h.0)
forms_fit count names.Jalr =
    either_makes Fits IsFit (count == 1) _ _ (λ v h. jalr_word 1 v (pos 0) (omega arith) h (omega arith))
    (λ v h. jalr_word v.0 v.1.1 v.1.0 h.0 h.1.1 h.1.0)
forms_fit count (names.Bare op) = λ v h. bare_worded op
forms_fit count (names.Unary op) = λ v h. unary_worded op v.0 v.1 h.0 h.1
forms_fit count (names.BranchSwapped op) = λ v h. (h.1.0, h.0)
forms_fit count (names.BranchZero op) = λ v h. (h.0, zero_register)
forms_fit count (names.ZeroBranch op) = λ v h. (zero_register, h.0)
forms_fit count names.Jump = λ v h. zero_register
forms_fit count names.JumpRegister = λ v h. jalr_word 0 v (pos 0) zero_register h (omega arith)
forms_fit count names.LoadImmediate = λ v h. h.0
forms_fit count names.LoadAddress = λ v h. h.0
forms_fit count (names.Section s) = λ v h. tt
forms_fit count (names.Numbers width) = λ n. tt
forms_fit count names.Space = λ v h. tt
forms_fit count names.Align = λ v h. tt
forms_fit count names.Global = λ v h. tt

statement_fit : (labels : Spots) (m : Mnemonic) (text : List ℕ) → IfOk (statement_of labels m text) IsFit
statement_fit labels m text = statement_holds labels Fits (operand_fits labels) IsFit m text (forms_fit (how_many text) m)

of_mnemonic_fit : (labels : Spots) (place : SectionPlace) (o : Option Mnemonic) (text : List ℕ) → IfOk (of_mnemonic labels place o text) IsFit
of_mnemonic_fit labels place (Some m) text = also_ok (statement_of labels m text) (placed m place) IsFit (statement_fit labels m text)
of_mnemonic_fit labels place None text = tt

pub statement_in_fit : (labels : Spots) (place : SectionPlace) (text : List ℕ) → IfOk (statement_in labels place text) IsFit
unfolding statement_in
statement_in_fit labels place text =
    either_ok (not (is_sound false text)) (Err BadToken) _ IsFit tt
    (either_ok (is_empty (skip_blanks text)) (Ok Nothing) _ IsFit tt
    (either_ok (not (starts_with is_name_start (skip_blanks text))) (Err BadToken) _ IsFit tt
    (of_mnemonic_fit labels place (mnemonic_named (first_word (skip_blanks text))) (behind_word (skip_blanks text)))))

-- ---- the instructions that a statement becomes have words

abbrev pub HaveWords : Expansion → Type 0
HaveWords Empty = Unit {0}
HaveWords (Single a) = HasWord a
HaveWords (Double a b) = HasWord a × HasWord b

-- ---- branches and jumps

even_minus : (sign n : ℕ) → 0 < sign → n ≤ sign → n % 2 ≡ 0 → IsMultiple 2 sign (neg_ℤ (pos n))
even_minus sign zero p h e = (p, refl)
even_minus sign (suc n) p h e = (omega arith, omega arith)

even : (n bound : ℕ) → (n % 2 == 0 && nat_le n bound) ≡ true → (n % 2 ≡ 0) × (n ≤ bound)
even n bound e = let p = and_parts (n % 2 == 0) (nat_le n bound) e in (eqb-true (n % 2) 0 p.0, leb-true n bound p.1)

distance_within : (below above from target : ℕ) → above < below → IfOk (distance below above from target) (IsMultiple 2 below)
unfolding distance
distance_within below above from target h =
    either_ok (nat_le from target) _ _ (IsMultiple 2 below)
    (tested_ok _ (pos (target - from)) RangeOfImmediate (IsMultiple 2 below) (λ e. let p = even (target - from) above e in (omega arith, p.0)))
    (tested_ok _ (neg_ℤ (pos (from - target))) RangeOfImmediate (IsMultiple 2 below) (λ e. let p = even (from - target) below e in even_minus below (from - target) (omega arith) p.1 p.0))

distance_to_within : (below above text_size from : ℕ) (target : Option Spot) → above < below → IfOk (distance_to below above text_size from target) (IsMultiple 2 below)
distance_to_within below above text_size from (Some spot) h = distance_within below above from (address text_size spot) h
distance_to_within below above text_size from None h = tt

-- ---- li and la

small_within : (value : ℤ) → is_small value ≡ true → IsWithin 2048 value
small_within (pos n) e = grind (arith, ints)
small_within (negsuc n) e = grind (arith, ints)

low_by : (n : ℕ) → n < 4096 → (t : Bool) → nat_lt n 2048 ≡ t → IsWithin 2048 (cond t (pos n) (neg_ℤ (pos (4096 - n))))
low_by n h true e = ltb-true n 2048 e
low_by n h false e = let k = ltb-false n 2048 e in minus_within (4096 - n) (omega arith)

low_within : (n : ℕ) → IsWithin 2048 (low_part n)
low_within n = low_by (n % 4096) (omega arith) (nat_lt (n % 4096) 2048) refl

high_within : (n : ℕ) → IsMultiple 4096 2147483648 (high_part n)
high_within n = upper_within ((n + 2048) / 4096 % 1048576) (omega arith)

load_immediate_by : (rd : ℕ) (value : ℤ) → IsRegister rd → (t u : Bool) → is_small value ≡ t
    → HaveWords (cond t (Single (inst.Immediate Addi rd 0 value)) (cond u (Double (inst.Lui rd (high_part (low_word value))) (inst.Immediate Addiw rd rd (low_part (low_word value)))) (Single (inst.Lui rd (high_part (low_word value))))))
load_immediate_by rd value p true u e = immediate_word Addi rd 0 value p zero_register (small_within value e)
load_immediate_by rd value p false true e =
    (lui_word rd (high_part (low_word value)) p (high_within (low_word value)), immediate_word Addiw rd rd (low_part (low_word value)) p p (low_within (low_word value)))
load_immediate_by rd value p false false e = lui_word rd (high_part (low_word value)) p (high_within (low_word value))

load_immediate_worded : (rd : ℕ) (value : ℤ) → IsRegister rd → HaveWords (load_immediate rd value)
unfolding load_immediate
load_immediate_worded rd value p = load_immediate_by rd value p (is_small value) (needs_low_part (low_word value)) refl

address_by_worded : (rd by : ℕ) → IsRegister rd → HaveWords (load_address_by rd by)
address_by_worded rd by p = (auipc_word rd (high_part by) p (high_within by), immediate_word Addi rd rd (low_part by) p p (low_within by))

load_address_worded : (text_size from rd : ℕ) (target : Option Spot) → IsRegister rd → IfOk (load_address text_size from rd target) HaveWords
unfolding load_address
load_address_worded text_size from rd (Some spot) p = address_by_worded rd ((address text_size spot + 4294967296 - from) % 4294967296) p
load_address_worded text_size from rd None p = tt

-- ---- every statement

pub expanded_worded : (text_size from : ℕ) (statement : Statement) → IsFit statement → IfOk (expanded text_size from statement) HaveWords
unfolding expanded
expanded_worded text_size from (One i) h = h
expanded_worded text_size from (Branch op rs1 rs2 target) h =
    read_ok (distance_to 4096 4094 text_size from target) (λ d. Ok (Single (inst.Branch op rs1 rs2 d))) (IsMultiple 2 4096) HaveWords
    (distance_to_within 4096 4094 text_size from target (omega arith)) (λ d k. branch_word op rs1 rs2 d h.0 h.1 k)
expanded_worded text_size from (Jump rd target) h =
    read_ok (distance_to 1048576 1048574 text_size from target) (λ d. Ok (Single (inst.Jal rd d))) (IsMultiple 2 1048576) HaveWords
    (distance_to_within 1048576 1048574 text_size from target (omega arith)) (λ d k. jal_word rd d h k)
expanded_worded text_size from (LoadImmediate rd value) h = load_immediate_worded rd value h
expanded_worded text_size from (LoadAddress rd target) h = load_address_worded text_size from rd target h
expanded_worded text_size from Nothing h = tt
expanded_worded text_size from (Section part) h = tt
expanded_worded text_size from (Numbers width count) h = tt
expanded_worded text_size from (Space size) h = tt
expanded_worded text_size from (Align power) h = tt

-- ---- what a source means has its words, so it is spelled without a fault

abbrev IsSpellable : Placed → Type 0
IsSpellable p = HasItsWord p.item

abbrev AllSpellable : List Placed → Type 0
AllSpellable items = All IsSpellable items

-- ---- one line

pushed : (part : Part) (i : SourceItem) (so_far : List Placed) → HasItsWord i → AllSpellable so_far → AllSpellable (with_item part i so_far)
pushed part i so_far h all = All-push IsSpellable so_far (record { section = part; item = i }) all h

instructions_pushed : (line : ℕ) (e : Expansion) (so_far : List Placed) → HaveWords e → AllSpellable so_far → AllSpellable (with_instructions line e so_far)
unfolding with_instructions
instructions_pushed line Empty so_far h all = all
instructions_pushed line (Single a) so_far h all = pushed section.Text (Instruction line a) so_far h all
instructions_pushed line (Double a b) so_far h all =
    pushed section.Text (Instruction line b) _ h.1 (pushed section.Text (Instruction line a) so_far h.0 all)

value_pushed : (labels : Spots) (text_size : ℕ) (part : Part) (width : DataWidth) (text : List ℕ) (so_far : List Placed)
    → AllSpellable so_far → IfOk (number_pushed labels text_size part width text so_far) AllSpellable
unfolding number_pushed
value_pushed labels text_size part width text so_far all =
    read_ok (value_in labels text_size width text) (λ v. Ok (with_item part (Number width v) so_far)) (λ _. Unit {0}) AllSpellable
    (any_ok (value_in labels text_size width text)) (λ v _. pushed part (Number width v) so_far tt all)

values_pushed : (labels : Spots) (text_size : ℕ) (part : Part) (width : DataWidth) (n : ℕ) (text : List ℕ) (so_far : List Placed)
    → AllSpellable so_far → IfOk (with_numbers labels text_size part width n text so_far) AllSpellable
unfolding with_numbers
values_pushed labels text_size part width zero text so_far all = all
values_pushed labels text_size part width (suc n) text so_far all =
    read_ok (number_pushed labels text_size part width (first_operand text) so_far) (with_numbers labels text_size part width n (other_operands text)) AllSpellable AllSpellable
    (value_pushed labels text_size part width (first_operand text) so_far all) (λ items h. values_pushed labels text_size part width n (other_operands text) items h)

filling_spellable : (place : SectionPlace) (power : ℕ) (t : Bool)
    → HasItsWord (cond t (Nops (padding (offset place) power / 4)) (Zeros (padding (offset place) power)))
filling_spellable place power true = tt
filling_spellable place power false = tt

filling_pushed : (place : SectionPlace) (power : ℕ) (so_far : List Placed) → AllSpellable so_far → AllSpellable (with_item place.section (filling place power) so_far)
unfolding filling
filling_pushed place power so_far all =
    pushed place.section (filling place power) so_far (filling_spellable place power (is_text place.section && (place.text_size % 4 == 0 && nat_le 2 power))) all

becomes : (text_size line at : ℕ) (statement : Statement) (so_far : List Placed) → IsFit statement → AllSpellable so_far
    → IfOk (expanded text_size at statement >>= λ e. Ok (with_instructions line e so_far)) AllSpellable
becomes text_size line at statement so_far h all =
    read_ok (expanded text_size at statement) (λ e. Ok (with_instructions line e so_far)) HaveWords AllSpellable
    (expanded_worded text_size at statement h) (λ e k. instructions_pushed line e so_far k all)

statement_pushed : (labels : Spots) (text_size line : ℕ) (place : SectionPlace) (text : List ℕ) (statement : Statement) (so_far : List Placed)
    → IsFit statement → AllSpellable so_far → IfOk (with_statement labels text_size line place text statement so_far) AllSpellable
unfolding with_statement
statement_pushed labels text_size line place text (Numbers width count) so_far h all =
    values_pushed labels text_size place.section width count (operands text) so_far all
statement_pushed labels text_size line place text (Space size) so_far h all = pushed place.section (Zeros size) so_far tt all
statement_pushed labels text_size line place text (Align power) so_far h all = filling_pushed place power so_far all
statement_pushed labels text_size line place text statement so_far h all = becomes text_size line (text_base + place.text_size) statement so_far h all

line_pushed : (labels : Spots) (text_size line : ℕ) (place : SectionPlace) (text : List ℕ) (so_far : List Placed)
    → AllSpellable so_far → IfOk (line_meant labels text_size line place text so_far) (λ x. AllSpellable x.1)
unfolding line_meant statement_meant
line_pushed labels text_size line place text so_far all =
    read_ok (statement_in labels place text) _ IsFit (λ x. AllSpellable x.1) (statement_in_fit labels place text) (λ statement h.
    read_ok (with_statement labels text_size line place text statement so_far) _ AllSpellable (λ x. AllSpellable x.1)
    (statement_pushed labels text_size line place text statement so_far h all) (λ items k.
    read_ok (place_behind place statement) (λ next. Ok (next, items)) (λ _. Unit {0}) (λ x. AllSpellable x.1) (any_ok (place_behind place statement)) (λ _ _. k)))

-- ---- the lines of a source

lines_pushed : (l : Laid) (before : ℕ) (place : SectionPlace) (lines : List (List ℕ)) (so_far : List Placed)
    → AllSpellable so_far → IfOk (lines_meant l before place lines so_far) AllSpellable
unfolding lines_meant line_or_fault
lines_pushed l before place [] so_far all = all
lines_pushed l before place (line ∷ lines) so_far all =
    let meant = line_meant l.labels l.place.text_size (before + 1) place (statement_text (code_of line)) so_far in
    and_then_if_ok (meaning_or_fault l.first (before + 1) meant) (λ x. lines_meant l (before + 1) x.0 lines x.1) (λ x. AllSpellable x.1) AllSpellable
    (told_ok l.first (before + 1) meant (λ x. AllSpellable x.1) (line_pushed l.labels l.place.text_size (before + 1) place (statement_text (code_of line)) so_far all))
    (λ x h. lines_pushed l (before + 1) x.0 lines x.1 h)

meaning_spellable : (source : List ℕ) → IfOk (meaning_of source) AllSpellable
unfolding meaning_of
meaning_spellable source = lines_pushed (layout_of source) 0 source_start (source_lines source) [] (All-nil IsSpellable)

pub every_item_has_its_word : EveryItemHasItsWord
every_item_has_its_word source items h = IfOk-at_ok AllSpellable h (meaning_spellable source)

-- ---- the words

item_spelled : (part : Part) (i : SourceItem) (s : Spelled) → HasItsWord i → (u : Spelled) × (spelled_item part i s ≡ Ok u)
unfolding spelled_item
item_spelled part (Instruction line i) s h = (with_word line i h.0 s, ap (λ (o : Option ℕ). worded line i o s) h.1)
item_spelled part (Number width value) s h = (_, refl)
item_spelled part (Zeros n) s h = (_, refl)
item_spelled part (Nops n) s h = (_, refl)

all_spelled : (items : List Placed) (s : Spelled) → AllSpellable items → (t : Spelled) × (spelled items s ≡ Ok t)
unfolding spelled
all_spelled [] s all = (s, refl)
all_spelled (p ∷ ps) s all =
    let one = item_spelled p.section p.item s (All-head IsSpellable p ps all) in
    let others = all_spelled ps one.0 (All-tail IsSpellable p ps all) in
    (others.0, ap (λ (r : Result Spelled SourceFault). and_then r (spelled ps)) one.1 ∙ others.1)

pub spelling_never_fails : SpellingNeverFails
spelling_never_fails source items h = all_spelled items nothing_spelled (every_item_has_its_word source items h)

-- ---- the program

program_from : (source : List ℕ) (items : List Placed) (s : Spelled) → spelled items nothing_spelled ≡ Ok s
    → (p : Assembled) × (and_then (spelled items nothing_spelled) (λ s. Ok (assembled (layout_of source).place.text_size (layout_of source).labels s)) ≡ Ok p)
program_from source items s h =
    let l = layout_of source in
    (assembled l.place.text_size l.labels s, ap (λ (r : Result Spelled SourceFault). and_then r (λ s. Ok (assembled l.place.text_size l.labels s))) h)

AsMeant : Result Assembled SourceFault → Result (List Placed) SourceFault → Type 0
AsMeant program meant = ((fault : SourceFault) → (program ≡ Err fault) ↔ (meant ≡ Err fault)) × (IsOk program ↔ IsOk meant)

as_meant : (f : List Placed → Result Assembled SourceFault) (m : Result (List Placed) SourceFault)
    → ((items : List Placed) → m ≡ Ok items → (p : Assembled) × (f items ≡ Ok p)) → AsMeant (and_then m f) m
unfolding AsMeant
as_meant f (Ok items) h = let k = h items refl in ((λ fault. (λ e. absurd (cc), λ e. absurd (cc))), (λ _. refl, λ _. ap is_ok k.1))
as_meant f (Err e) h = ((λ fault. (λ same. cc, λ same. cc)), (λ k. k, λ k. k))

pub refused_as_meant : RefusedAsMeant
unfolding program_of AsMeant
refused_as_meant source =
    as_meant _ (meaning_of source) (λ items h. let s = spelling_never_fails source items h in program_from source items s.0 s.1)
