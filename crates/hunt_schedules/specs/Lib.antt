pub mod Beginning
pub mod Schedules
pub mod Branches
pub mod Walks
pub mod Covering
pub mod Searches
pub mod Making
pub mod Runs
