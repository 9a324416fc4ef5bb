pub mod Changes
pub mod Wholes
pub mod Rising
pub mod SafeRuns
