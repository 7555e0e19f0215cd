pub mod Items
pub mod Observers
pub mod Quiet
pub mod Walks
