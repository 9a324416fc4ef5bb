pub mod SlotLaws
pub mod GhostLaws
pub mod NameLaws
pub mod Views
