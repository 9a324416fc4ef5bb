-- One step of a transaction: the invariant, and that each kind of step keeps it.
pub mod Parts
pub mod Covers
pub mod Guarded
pub mod Guards
pub mod Steps
pub mod Undoable
pub mod Replay
pub mod Invariant
pub mod WriteKeeps
pub mod Scans
pub mod ReadRows
pub mod ReadKeeps
pub mod EndKeeps
