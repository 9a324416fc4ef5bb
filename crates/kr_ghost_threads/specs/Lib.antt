pub mod Histories
pub mod Told
pub mod Threaded
pub mod Report
