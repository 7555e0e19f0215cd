pub mod Kept
pub use Rattle.evm_serve.specs as evm_serve
