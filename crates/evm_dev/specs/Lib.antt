pub mod Attached
pub mod Console
pub mod Mailbox
pub mod Pins
pub mod Rows
pub mod Touched
