pub mod Characters
pub mod Faults
pub mod Text
pub mod Names
pub mod Extensions
pub mod Messages
