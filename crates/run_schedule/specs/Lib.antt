pub mod Advances
pub mod Choices
pub mod Console
pub mod Endings
pub mod Runs
