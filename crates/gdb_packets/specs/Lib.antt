pub mod Commands
pub mod Framing
pub mod Hearings
pub mod Hexadecimal
pub mod Items
pub mod Laws
pub mod Trusted
