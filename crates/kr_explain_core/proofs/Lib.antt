pub mod ToldCauses
pub mod Trying
pub mod Clear
pub mod Outcomes
pub mod InBlocks
pub mod Shown
pub mod Wrong
