pub mod Appending
pub mod Written
pub mod Reading
pub mod Laws
pub mod Lines
pub mod Fields
pub mod Rows
