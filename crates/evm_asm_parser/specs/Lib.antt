pub mod Operands
pub mod Forms
pub mod Statements
pub mod Kept
pub use Rattle.evm_asm_lexer.specs as evm_asm_lexer
