pub mod About
pub mod Comes
pub mod Marks
pub mod Moments
pub mod Reached
pub mod Requests
