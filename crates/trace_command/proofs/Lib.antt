pub mod Told
mod Placed
pub mod Tellings
