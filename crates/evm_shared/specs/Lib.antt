pub mod Checks
pub mod Cursors
pub mod EventCounts
pub mod Histories
pub mod Lookaheads
pub mod Ports
pub mod Receipts
pub mod Workers
