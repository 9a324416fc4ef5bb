pub mod Ghosts
pub mod Covers
pub mod Cases
pub mod Page
