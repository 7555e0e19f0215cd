pub mod Behind
pub mod Endings
pub mod Fitting
pub mod Histories
pub mod Known
pub mod Lengths
pub mod Memory
pub mod Noted
pub mod OneByOne
pub mod Replayed
pub mod Replays
pub mod Runs
pub mod SessionTexts
pub mod StepLemmas
pub use Rattle.evm_diagnostics.proofs.evm_debug as evm_debug
pub use Rattle.evm_diagnostics.proofs.law_rules as law_rules
pub use Rattle.evm_streams.proofs as evm_streams
pub use Rattle.evm_diagnostics.proofs.evm_text as evm_text
