pub mod Follows
pub mod Dealt
pub mod Fates
pub mod Waits
pub mod Counts
pub mod Placed
