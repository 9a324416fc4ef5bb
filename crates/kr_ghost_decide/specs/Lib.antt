pub mod Holds
pub mod Ways
pub mod Heirs
pub mod Found
pub mod Holes
pub mod Every
