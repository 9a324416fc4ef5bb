pub mod Showing
pub mod Wrong
