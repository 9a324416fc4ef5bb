pub mod Wrong
pub mod Lines
pub mod Blames
pub mod Blamed
pub mod Explained
pub mod Mends
