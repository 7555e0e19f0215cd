pub mod Lists
pub mod Marks
pub mod Observations
pub mod Tallies
