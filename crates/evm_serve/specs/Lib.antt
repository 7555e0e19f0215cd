pub mod Assembling
pub mod FaultLines
pub mod Imaging
pub mod Known
pub mod Memory
pub mod Noted
pub mod Notes
pub mod Noting
pub mod Playing
pub mod ReplayLaws
pub mod Replaying
pub mod RunNotes
pub mod RunOptions
pub mod Script
pub mod Scripted
pub mod ScriptedMachine
pub mod Serving
pub mod SessionLaws
pub mod Sitting
pub mod Starting
pub use Rattle.evm_elf.specs.evm_asm as evm_asm
pub use Rattle.evm_elf.specs.evm_asm_lexer as evm_asm_lexer
pub use Rattle.evm_diagnostics.specs.evm_core as evm_core
pub use Rattle.evm_diagnostics.specs.evm_debug as evm_debug
pub use Rattle.evm_diagnostics.specs as evm_diagnostics
pub use Rattle.evm_elf.specs as evm_elf
pub use Rattle.evm_diagnostics.specs.evm_history as evm_history
pub use Rattle.evm_diagnostics.specs.evm_journal as evm_journal
pub use Rattle.evm_streams.specs as evm_streams
pub use Rattle.evm_diagnostics.specs.evm_text as evm_text
