pub mod Blocks
pub mod Bytes
pub mod Images
pub mod Laws
pub mod Ram
pub mod Width
