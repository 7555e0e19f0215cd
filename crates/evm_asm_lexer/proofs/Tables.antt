-- What a name has in a table is what it has in the table's first part that has it.
use Rattle.std.proofs.Common.{◌≡◌, ◌∙◌, ℕ, Bool, true, false, cond, List, [], ◌∷◌, ◌++◌, Option, Some, None, ap, refl, bytes_eq}
use Rattle.evm_asm_lexer.specs.declared.mnemonic.Mnemonic.{Mnemonic}
use Rattle.evm_asm_lexer.specs.declared.mnemonic.Mnemonic.TheVariants.{Register, Word, Immediate, Shift, Load, Store, Branch, Bare, Unary}
use Rattle.evm_asm_lexer.specs.Names.{named, fixed_registers, argument_registers, saved_registers, temporary_registers, registers_to_7, registers_to_15, registers_to_23, registers_to_31, register_names, register_named, register_ops, word_ops, immediate_ops, shift_ops, load_ops, store_ops, branch_ops, bare_ops, unary_ops, branch_pseudos, jumps_and_loads, directives, each_as, mnemonics, mnemonic_named}

-- what the name has in the first table, else what it has in the others
abbrev pub or_else : {A B : Type 0} → Option A → (A → B) → Option B → Option B
or_else (Some a) f others = Some (f a)
or_else None f others = others

or_by : {A B : Type 0} (t : Bool) (f : A → B) (a : A) (o : Option A) (others : Option B)
    → cond t (Some (f a)) (or_else o f others) ≡ or_else (cond t (Some a) o) f others
or_by true f a o others = refl
or_by false f a o others = refl

pub in_parts : {A : Type 0} (es fs : List (List ℕ × A)) (name : List ℕ) → named (es ++ fs) name ≡ or_else (named es name) (λ a. a) (named fs name)
in_parts [] fs name = refl
in_parts (e ∷ es) fs name =
    ap (λ o. cond (bytes_eq name e.0) (Some e.1) o) (in_parts es fs name) ∙ or_by (bytes_eq name e.0) (λ a. a) e.1 (named es name) (named fs name)

pub in_each : {A : Type 0} (f : A → Mnemonic) (es : List (List ℕ × A)) (fs : List (List ℕ × Mnemonic)) (name : List ℕ)
    → named (each_as f es ++ fs) name ≡ or_else (named es name) f (named fs name)
in_each f [] fs name = refl
in_each f (e ∷ es) fs name =
    ap (λ o. cond (bytes_eq name e.0) (Some (f e.1)) o) (in_each f es fs name) ∙ or_by (bytes_eq name e.0) f e.1 (named es name) (named fs name)

pub register_in_parts : (name : List ℕ) → register_named name
    ≡ or_else (named fixed_registers name) (λ n. n) (
    or_else (named argument_registers name) (λ n. n) (
    or_else (named saved_registers name) (λ n. n) (
    or_else (named temporary_registers name) (λ n. n) (
    or_else (named registers_to_7 name) (λ n. n) (
    or_else (named registers_to_15 name) (λ n. n) (
    or_else (named registers_to_23 name) (λ n. n) (
    named registers_to_31 name)))))))
unfolding register_named register_names registers_to_15 registers_to_31 registers_to_7 temporary_registers saved_registers argument_registers fixed_registers
register_in_parts name =
    in_parts fixed_registers (argument_registers ++ saved_registers ++ temporary_registers ++ registers_to_7 ++ registers_to_15 ++ registers_to_23 ++ registers_to_31) name
    ∙ ap (or_else (named fixed_registers name) (λ n. n)) (
    in_parts argument_registers (saved_registers ++ temporary_registers ++ registers_to_7 ++ registers_to_15 ++ registers_to_23 ++ registers_to_31) name
    ∙ ap (or_else (named argument_registers name) (λ n. n)) (
    in_parts saved_registers (temporary_registers ++ registers_to_7 ++ registers_to_15 ++ registers_to_23 ++ registers_to_31) name
    ∙ ap (or_else (named saved_registers name) (λ n. n)) (
    in_parts temporary_registers (registers_to_7 ++ registers_to_15 ++ registers_to_23 ++ registers_to_31) name
    ∙ ap (or_else (named temporary_registers name) (λ n. n)) (
    in_parts registers_to_7 (registers_to_15 ++ registers_to_23 ++ registers_to_31) name
    ∙ ap (or_else (named registers_to_7 name) (λ n. n)) (
    in_parts registers_to_15 (registers_to_23 ++ registers_to_31) name
    ∙ ap (or_else (named registers_to_15 name) (λ n. n)) (
    in_parts registers_to_23 (registers_to_31) name))))))

pub mnemonic_in_parts : (name : List ℕ) → mnemonic_named name
    ≡ or_else (named register_ops name) Register (
    or_else (named word_ops name) Word (
    or_else (named immediate_ops name) Immediate (
    or_else (named shift_ops name) Shift (
    or_else (named load_ops name) Load (
    or_else (named store_ops name) Store (
    or_else (named branch_ops name) Branch (
    or_else (named bare_ops name) Bare (
    or_else (named unary_ops name) Unary (
    or_else (named branch_pseudos name) (λ m. m) (
    or_else (named jumps_and_loads name) (λ m. m) (
    named directives name)))))))))))
unfolding mnemonic_named mnemonics branch_pseudos directives jumps_and_loads unary_ops bare_ops branch_ops store_ops load_ops shift_ops immediate_ops word_ops register_ops
mnemonic_in_parts name =
    in_each Register register_ops (each_as Word word_ops ++ each_as Immediate immediate_ops ++ each_as Shift shift_ops ++ each_as Load load_ops ++ each_as Store store_ops ++ each_as Branch branch_ops ++ each_as Bare bare_ops ++ each_as Unary unary_ops ++ branch_pseudos ++ jumps_and_loads ++ directives) name
    ∙ ap (or_else (named register_ops name) Register) (
    in_each Word word_ops (each_as Immediate immediate_ops ++ each_as Shift shift_ops ++ each_as Load load_ops ++ each_as Store store_ops ++ each_as Branch branch_ops ++ each_as Bare bare_ops ++ each_as Unary unary_ops ++ branch_pseudos ++ jumps_and_loads ++ directives) name
    ∙ ap (or_else (named word_ops name) Word) (
    in_each Immediate immediate_ops (each_as Shift shift_ops ++ each_as Load load_ops ++ each_as Store store_ops ++ each_as Branch branch_ops ++ each_as Bare bare_ops ++ each_as Unary unary_ops ++ branch_pseudos ++ jumps_and_loads ++ directives) name
    ∙ ap (or_else (named immediate_ops name) Immediate) (
    in_each Shift shift_ops (each_as Load load_ops ++ each_as Store store_ops ++ each_as Branch branch_ops ++ each_as Bare bare_ops ++ each_as Unary unary_ops ++ branch_pseudos ++ jumps_and_loads ++ directives) name
    ∙ ap (or_else (named shift_ops name) Shift) (
    in_each Load load_ops (each_as Store store_ops ++ each_as Branch branch_ops ++ each_as Bare bare_ops ++ each_as Unary unary_ops ++ branch_pseudos ++ jumps_and_loads ++ directives) name
    ∙ ap (or_else (named load_ops name) Load) (
    in_each Store store_ops (each_as Branch branch_ops ++ each_as Bare bare_ops ++ each_as Unary unary_ops ++ branch_pseudos ++ jumps_and_loads ++ directives) name
    ∙ ap (or_else (named store_ops name) Store) (
    in_each Branch branch_ops (each_as Bare bare_ops ++ each_as Unary unary_ops ++ branch_pseudos ++ jumps_and_loads ++ directives) name
    ∙ ap (or_else (named branch_ops name) Branch) (
    in_each Bare bare_ops (each_as Unary unary_ops ++ branch_pseudos ++ jumps_and_loads ++ directives) name
    ∙ ap (or_else (named bare_ops name) Bare) (
    in_each Unary unary_ops (branch_pseudos ++ jumps_and_loads ++ directives) name
    ∙ ap (or_else (named unary_ops name) Unary) (
    in_parts branch_pseudos (jumps_and_loads ++ directives) name
    ∙ ap (or_else (named branch_pseudos name) (λ n. n)) (
    in_parts jumps_and_loads (directives) name))))))))))
