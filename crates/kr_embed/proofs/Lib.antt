pub mod FirstFaults
pub mod Causes
pub mod Schedules
pub mod GhostSerials
pub mod Recorded
pub mod Values
