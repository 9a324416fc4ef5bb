pub mod Apart
pub mod Flags
