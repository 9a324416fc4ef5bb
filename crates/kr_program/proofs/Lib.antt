pub mod Answered
pub mod Serial
pub mod Told
pub mod Words
