pub mod Hunts
pub mod Searches
