pub mod Absent
pub mod Pins
pub mod NextNames
pub mod InPlace
pub mod Sighted
