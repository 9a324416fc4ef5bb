pub mod Sharing
pub mod Judged
pub mod Given
pub mod Tried
pub mod Repairs
