pub mod Pieces
pub mod Badged
pub mod Whole
pub mod Put
