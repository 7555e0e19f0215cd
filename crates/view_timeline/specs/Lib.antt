pub mod Rows
pub mod Strips
pub use Rattle.run_marks.specs as run_marks
pub use Rattle.run_walk.specs as run_walk
