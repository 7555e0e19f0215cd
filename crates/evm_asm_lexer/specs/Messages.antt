-- Messages of the faults of a line.
use Rattle.std.specs.Prelude.{ℕ, List, codes}
use Rattle.evm_asm_lexer.specs.declared.fault.AsmFaultKind.{AsmFaultKind}
use Rattle.evm_asm_lexer.specs.declared.fault.AsmFaultKind.TheVariants.{BadToken, UnknownName, BadOperand, RangeOfImmediate, LabelTwice, LabelMissing, TooLarge, NoMemory}

abbrev pub asm_message : AsmFaultKind → List ℕ
asm_message BadToken = codes "characters that make no token, or a statement that begins with a number or a mark"
asm_message UnknownName = codes "unknown name"
asm_message BadOperand = codes "operands of another number or kind, or an instruction in the data or not at a multiple of 4"
asm_message RangeOfImmediate = codes "a number outside its range, or a label that is odd or too far"
asm_message LabelTwice = codes "a label that is defined already"
asm_message LabelMissing = codes "no line defines this label"
asm_message TooLarge = codes "more than 8388608 bytes of text or of data"
asm_message NoMemory = codes "out of memory"
