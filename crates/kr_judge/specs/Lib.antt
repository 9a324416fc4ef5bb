pub mod Changed
pub mod Ran
pub mod Verdicts
