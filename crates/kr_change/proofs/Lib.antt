pub mod Lawful
pub mod GhostLawful
pub mod Rows
pub mod Listed
