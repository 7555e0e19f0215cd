pub use Rattle.evm_ready.proofs as evm_ready
pub mod Awaited
pub mod Wait_queues
