pub mod Fields
pub mod Faults
pub mod Details
pub mod Rising
pub mod Files
pub mod Programs
pub mod Messages
pub use Rattle.evm_asm.specs as evm_asm
pub use Rattle.evm_asm.specs.evm_asm_lexer as evm_asm_lexer
pub use Rattle.evm_asm.specs.evm_asm_parser as evm_asm_parser
