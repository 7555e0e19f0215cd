pub mod Chosen
pub mod Expiries
pub mod Giving
pub mod Passes
pub mod Rounds
pub mod Signals
pub mod Wakes
