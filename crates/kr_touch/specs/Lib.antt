pub mod Parts
pub mod Attempts
pub mod Effects
pub mod Room
pub mod Pins
pub mod Sights
