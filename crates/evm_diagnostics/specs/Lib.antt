pub mod Faults
pub mod Lookup
pub mod Notes
pub use Rattle.evm_debug.specs.evm_board as evm_board
pub use Rattle.evm_debug.specs.evm_core as evm_core
pub use Rattle.evm_debug.specs as evm_debug
pub use Rattle.evm_debug.specs.evm_history as evm_history
pub use Rattle.evm_debug.specs.evm_journal as evm_journal
pub use Rattle.evm_debug.specs.evm_text as evm_text
