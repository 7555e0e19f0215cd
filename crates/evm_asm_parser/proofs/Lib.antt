pub mod Entries
pub mod Outcomes
pub mod Forms_hold
pub mod Operands_read
