pub mod Changes
pub mod GhostChanges
pub mod ChangedTables
pub mod Every
pub mod GhostEvery
pub mod ChangeNames
pub mod Edits
