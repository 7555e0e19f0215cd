pub mod Devices
pub mod Few
pub mod Raising
pub mod Ranking
pub mod Rests
pub mod Rules
pub mod Within
