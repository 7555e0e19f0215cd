pub mod Accesses
pub mod Bursts
pub mod Idle
pub mod Loads
pub mod Quietly
pub mod Rooms
pub mod Stepped
pub mod Steps
pub mod TickedDevices
pub mod Ticks
pub mod Touches
pub use Rattle.law_rules.proofs as law_rules
