-- Whole runs: from steps to histories, and that every run is serializable in commit order.
pub mod Grants
pub mod Actives
pub mod Reading
pub mod Programs
pub mod Known
pub mod Ends
pub mod ReadDone
pub mod Attempts
pub mod Looks
pub mod Rollback
pub mod Outcome
pub mod Runs
pub mod Needed
