pub mod Replayed
pub mod SerialRuns
