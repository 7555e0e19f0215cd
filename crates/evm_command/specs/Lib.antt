pub mod Jobs
pub mod Running
pub mod ThreadRuns
pub mod Words
pub mod Workers
