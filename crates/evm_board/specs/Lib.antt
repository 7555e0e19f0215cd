pub mod Access
pub mod Bursts
pub mod Room
pub mod Steps
pub mod Stops
pub mod Ticks
pub use Rattle.evm_devs.specs as evm_devs
pub use Rattle.evm_settle.specs.evm_boost as evm_boost
