pub mod Burst
pub mod Does
pub mod Memory
pub mod Numbers
pub mod Registers
pub mod Values
