pub mod Answers
pub mod Asks
pub mod Exit
pub mod Trusted
pub use Rattle.evm_streams.specs as evm_streams
pub use Rattle.evm_serve.specs as evm_serve
