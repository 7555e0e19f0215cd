pub mod Keeping
pub mod Lines
pub mod Steady
pub mod Stepping
pub use Rattle.gdb_driving.proofs as gdb_driving
