use Rattle.std.proofs.Common.{refl}
use Rattle.evm_asm_lexer.specs.Names.{fixed_registers, argument_registers, saved_registers, temporary_registers, registers_to_7, registers_to_15, registers_to_23, registers_to_31, register_names, register_ops, word_ops, immediate_ops, shift_ops, load_ops, store_ops, branch_ops, bare_ops, unary_ops, branch_pseudos, jumps_and_loads, directives, mnemonics}
use Rattle.evm_asm_lexer.proofs.laws.no_name_stands_twice.Goals as goal

pub returns : goal.returns
unfolding register_names fixed_registers argument_registers saved_registers temporary_registers registers_to_7 registers_to_15 registers_to_23 registers_to_31 mnemonics register_ops word_ops immediate_ops shift_ops load_ops store_ops branch_ops bare_ops unary_ops branch_pseudos jumps_and_loads directives
returns c = (refl, refl)
