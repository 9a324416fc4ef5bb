pub mod Scenes
pub mod Words
pub mod Escape
pub mod Marks
pub mod Parts
