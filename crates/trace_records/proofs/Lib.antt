pub mod Follows
pub mod Lines
pub mod PlaceLines
pub mod Placing
pub mod Telling
pub mod Traces
