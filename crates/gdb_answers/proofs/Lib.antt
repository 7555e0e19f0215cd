pub mod Asking
pub mod Extending
pub mod Kept
pub mod Responding
pub mod Sessions
pub mod Turning
pub mod Turns
