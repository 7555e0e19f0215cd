pub mod Asks
pub mod Early
pub mod Lending
