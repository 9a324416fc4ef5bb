pub mod Kinds
pub mod Steps
pub mod Runs
pub mod Lawful
