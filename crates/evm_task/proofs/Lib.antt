pub mod Changed
pub mod Early
