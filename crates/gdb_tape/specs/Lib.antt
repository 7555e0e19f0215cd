pub mod Tape
pub use Rattle.gdb_driving.specs as gdb_driving
