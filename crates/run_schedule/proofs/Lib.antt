pub mod Prints
pub mod Telling
