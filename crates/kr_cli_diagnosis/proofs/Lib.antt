pub mod Heads
pub mod Helped
pub mod Unread
