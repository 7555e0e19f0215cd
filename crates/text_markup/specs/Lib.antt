pub mod Draft
pub mod Laws
pub mod Text
pub mod Xml
