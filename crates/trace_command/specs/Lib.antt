pub mod Flows
pub mod Instants
pub mod Spots
pub mod Times
pub mod Tellings
