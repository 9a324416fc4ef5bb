pub mod Habits
pub mod Parts
pub mod Whole
