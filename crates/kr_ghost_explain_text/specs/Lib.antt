pub mod Words
pub mod Titles
pub mod Told
