pub mod Searching
pub mod Walking
pub mod Covering
pub mod Closing
pub mod Going
pub mod Boards
pub mod Advancing
