pub mod Places
pub mod Same
