pub mod Waking
pub use Rattle.evm_boost.specs as evm_boost
pub use Rattle.evm_boost.specs.evm_ready as evm_ready
pub use Rattle.evm_task.specs as evm_task
