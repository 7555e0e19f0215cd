pub mod Found
pub mod Observing
pub mod Own
pub mod Quietly
pub mod Reaching
pub mod Stepping
pub mod Walking
