pub mod Points
pub mod Parts
pub mod Reached
pub mod Following
pub mod Tries
pub mod Stands
pub mod Conforms
pub mod Report
