pub mod Serial
pub mod Ample
