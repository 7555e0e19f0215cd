pub mod Line
pub mod LineReading
pub mod Pieces
pub mod Summary
pub mod Views
pub use Rattle.evm_journal.specs.evm_board as evm_board
pub use Rattle.evm_journal.specs.evm_core as evm_core
pub use Rattle.evm_journal.specs.evm_history as evm_history
pub use Rattle.evm_journal.specs as evm_journal
pub use Rattle.evm_journal.specs.evm_text as evm_text
