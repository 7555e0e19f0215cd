pub mod Oob
pub mod Places
pub mod ListedRanks
pub mod Queues
pub mod ReadyTurns
pub mod Ring
