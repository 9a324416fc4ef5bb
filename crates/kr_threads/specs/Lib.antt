pub mod Told
pub mod Threaded
pub mod Faults
