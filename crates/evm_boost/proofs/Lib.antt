pub use Rattle.evm_ready.proofs as evm_ready
pub use Rattle.evm_wait.proofs as evm_wait
pub mod Entries
pub mod Fills
pub mod Lending
pub mod Lends
pub mod Moves
pub mod Owning
pub mod Owners
pub mod Passing
pub mod Raising
pub mod Reaches
pub mod Queries
pub mod Settled
