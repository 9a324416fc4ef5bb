pub mod Faults
pub mod Lines
pub mod Replies
pub mod Reading
pub mod Parts
pub mod Report
pub mod Steps
pub mod Fits
