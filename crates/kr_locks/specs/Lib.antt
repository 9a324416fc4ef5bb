pub mod List
pub mod Buckets
pub mod Noted
