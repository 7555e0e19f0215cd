pub mod Headers
pub mod First_outside
pub mod Sharing
pub mod Sound
pub mod Written
pub mod Loaded
pub use Rattle.evm_asm.proofs as evm_asm
pub use Rattle.evm_asm.proofs.evm_asm_parser as evm_asm_parser
