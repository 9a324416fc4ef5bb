pub mod Sharing
pub mod Given
pub mod Three
pub mod InOrder
pub mod Named
pub mod Tried
pub mod Found
