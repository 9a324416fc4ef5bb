pub mod Lines
pub mod Harmless
pub mod Tried
pub mod Explained
pub mod Telling
pub mod Blocks
pub mod Told
