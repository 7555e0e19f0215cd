pub mod Failing
pub mod Lists
