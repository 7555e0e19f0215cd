pub mod Batches
pub mod Rule
pub mod Seats
