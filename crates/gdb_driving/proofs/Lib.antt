pub mod Inside
pub mod Kept
pub mod Lists
pub mod Making
pub mod Standing
pub mod Whole
pub mod Writing
