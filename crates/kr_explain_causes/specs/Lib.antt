pub mod Blames
pub mod Causes
pub mod Mends
pub mod Shares
