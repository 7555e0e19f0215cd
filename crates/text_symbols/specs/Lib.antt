pub mod Fields
pub mod Sections
pub mod Named
pub mod Names
pub mod Entries
pub mod Nearest
