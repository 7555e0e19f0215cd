pub mod OneBehind
pub mod OneEntry
pub mod IsFound
