-- The table with a lock that no schedule reaches: it isn't safe, and it does what a safe table does in every run.
pub mod Unsafe
pub mod Modes
pub mod Kept
pub mod Reached
pub mod Granted
pub mod Attempts
pub mod Steps
pub mod Same
