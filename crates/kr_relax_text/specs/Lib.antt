pub mod Scripts
pub mod Steps
pub mod Unused
pub mod Reasons
pub mod Whole
