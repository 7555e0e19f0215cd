pub mod Blocks
pub mod Booted
pub mod Commits
pub mod Journaled
pub mod Lists
pub mod Many
pub mod Outcomes
pub mod Rules
pub mod Words
pub use Rattle.evm_history.proofs as evm_history
pub use Rattle.evm_board.proofs.law_rules as law_rules
