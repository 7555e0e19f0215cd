pub mod Bytes
pub mod Places
mod SameBytes
pub mod Written
