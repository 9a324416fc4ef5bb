pub mod NoFloats
pub mod Writes
