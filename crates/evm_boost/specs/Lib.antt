pub use Rattle.evm_ready.specs as evm_ready
pub use Rattle.evm_wait.specs as evm_wait
pub mod Lent
pub mod Owning
pub mod Scatter
pub mod Scheduled
pub mod Settling
