pub mod Faults
pub mod DocumentFaults
pub mod Tables
pub mod Lawful
pub mod Reading
pub mod Shown
pub mod Answer
pub mod Writing
