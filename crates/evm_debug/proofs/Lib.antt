pub mod Lines
pub mod RegisterLines
pub mod RegisterText
pub mod Below
pub mod DeviceWords
pub mod Pairs
pub mod Shown
pub use Rattle.evm_journal.proofs.evm_history as evm_history
pub use Rattle.evm_journal.proofs as evm_journal
pub use Rattle.evm_journal.proofs.law_rules as law_rules
pub use Rattle.evm_journal.proofs.evm_text as evm_text
