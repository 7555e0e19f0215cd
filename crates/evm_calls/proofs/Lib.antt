pub mod Asked
pub mod Notices
pub mod Objects
pub mod Stamps
