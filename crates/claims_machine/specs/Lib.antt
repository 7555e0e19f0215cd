pub mod About
pub mod Devices
pub mod Noticed
pub mod Raising
pub mod Reached
pub mod Steps
pub mod Waiting
