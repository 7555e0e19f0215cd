pub mod Alike
pub mod Following
pub mod Lemmas
pub mod Sets
pub mod Unchanged
