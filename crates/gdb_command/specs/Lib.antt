pub mod Saved
pub mod SessionEnds
