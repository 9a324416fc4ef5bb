pub mod Told
pub mod Gathered
pub mod Placings
pub mod Wholes
