pub mod Runs
pub mod Kernels
mod Written
