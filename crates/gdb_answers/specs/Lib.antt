pub mod Answers
pub mod Asking
pub mod Responding
pub mod Sessions
pub mod Setting
pub mod Starting
pub mod Turns
pub mod Written
pub use Rattle.gdb_tape.specs as gdb_tape
pub use Rattle.sh_answers.specs as sh_answers
