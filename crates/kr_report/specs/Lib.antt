pub mod Report
pub mod CheckReport
pub mod GhostCheckReport
pub mod ThreadsReport
