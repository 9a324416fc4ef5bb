pub mod Alike
pub mod Equal
pub mod Judged
pub mod Suite
pub mod Tried
