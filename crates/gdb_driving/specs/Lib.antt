pub mod Driving
pub mod Interrupts
pub mod Kept
pub mod Points
pub mod Seeing
pub mod Setting
pub mod Shown
pub mod Writing
pub use Rattle.evm_debug.specs as evm_debug
