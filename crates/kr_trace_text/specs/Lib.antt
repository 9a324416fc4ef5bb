pub mod Answered
pub mod Steps
pub mod Deviations
pub mod Verdicts
pub mod Whole
