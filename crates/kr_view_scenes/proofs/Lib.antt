pub mod Rest
pub mod Escaped
pub mod Escapes
pub mod More
