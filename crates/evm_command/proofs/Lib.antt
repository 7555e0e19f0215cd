pub mod Loading
pub mod Turning
