pub mod Codes
pub mod Out
pub mod Sessions
