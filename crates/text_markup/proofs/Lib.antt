pub mod Bytes
pub mod Decimals
pub mod Drafts
pub mod Lemmas
pub mod Printed
