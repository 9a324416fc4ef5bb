pub mod Collected
pub mod Names
