pub mod Rows
pub mod Entries
pub mod Texts
pub mod Pages
pub mod Pokes
