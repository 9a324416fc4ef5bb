pub mod SlotLaws
pub mod Places
pub mod TreeLaws
pub mod StretchLaws
pub mod SkipLaws
