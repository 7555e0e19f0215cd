pub mod Bodies
pub mod Cuts
pub mod Digits
pub mod Escapes
pub mod Pieces
