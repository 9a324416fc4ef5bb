pub mod Machine
pub mod Deeds
pub mod Sights
pub mod Endings
pub mod Memory
pub mod Heirs
pub mod Plans
