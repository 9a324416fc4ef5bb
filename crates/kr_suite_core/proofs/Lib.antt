pub mod AlikeKind
pub mod EqualChanges
pub mod Engines
pub mod Shared
pub mod Tried
