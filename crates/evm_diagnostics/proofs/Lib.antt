pub mod BootLines
pub mod Notes
pub use Rattle.evm_debug.proofs as evm_debug
pub use Rattle.evm_debug.proofs.evm_history as evm_history
pub use Rattle.evm_debug.proofs.evm_journal as evm_journal
pub use Rattle.evm_debug.proofs.law_rules as law_rules
pub use Rattle.evm_debug.proofs.evm_text as evm_text
