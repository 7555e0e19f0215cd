pub mod Calls
pub mod KnownBytes
pub mod Messages
