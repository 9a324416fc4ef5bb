pub mod Lined
pub mod Grouped
pub mod Listed
pub mod FourTexts
pub mod Rowed
pub mod Schedule
pub mod Sets
