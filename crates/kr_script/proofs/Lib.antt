pub mod Firsts
pub mod Kept
pub mod Written
pub mod Documents
pub mod Numbers
pub mod LineReads
pub mod GhostFirsts
pub mod GhostDocuments
