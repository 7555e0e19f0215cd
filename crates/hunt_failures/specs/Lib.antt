pub mod Awake
pub mod Eves
pub mod Failures
