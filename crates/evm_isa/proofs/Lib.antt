-- Masks are runs of bits; Reading: what is decoded is what the table says.
pub mod Masks
pub mod Reading
pub mod Writing
pub mod Packing
pub mod Bits
pub mod Trips
