pub mod Told
pub mod Badges
pub mod Matrices
pub mod Rules
pub mod Covers
pub mod Causes
pub mod Page
