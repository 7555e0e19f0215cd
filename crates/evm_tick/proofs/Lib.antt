pub mod Growing
pub mod Rested
pub mod Spans
pub mod Zeros
