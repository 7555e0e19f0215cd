pub mod Counted
pub mod Spans
