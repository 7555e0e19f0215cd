use Rattle.claims_machine.proofs.parts.words_and_instructions_are_inverse.Goals as goal

pub returns-clause-of_32_bits : goal.returns-clause-of_32_bits
returns-clause-of_32_bits c i w e = (c.encoded_by_table.ensures i w).0 e
