pub mod Holes
pub mod Cases
pub mod Told
