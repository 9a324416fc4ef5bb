pub mod Met
pub mod Finding
pub mod Twins
pub mod Selects
pub mod Width
pub mod Relaxations
pub mod Outcomes
pub mod Unused
