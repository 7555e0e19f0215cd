pub mod Places
pub mod Sources
pub mod Items
pub mod Kept
pub mod Programs
pub mod Views
pub mod Assembled
pub mod Bounds
pub mod Loading
pub mod ProgramLaws
pub mod Sizes
pub use Rattle.evm_asm_parser.specs.evm_asm_lexer as evm_asm_lexer
pub use Rattle.evm_asm_parser.specs as evm_asm_parser
pub mod Quoting
pub mod Details
