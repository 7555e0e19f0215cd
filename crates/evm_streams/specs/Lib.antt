pub mod Diagnostic
pub mod Known
pub mod Reads
pub mod Writes
