pub mod Saved
pub use Rattle.evm_host.specs.evm_serve as evm_serve
