pub mod Nudges
pub mod Quiet
pub mod Rooms
pub mod Steps
pub mod Unwatched
