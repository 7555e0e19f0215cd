pub use Rattle.evm_ready.specs as evm_ready
pub mod Waiters
pub mod WaitTurns
