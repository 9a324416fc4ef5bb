-- Gaps and maps, and what changes and their undoing do to them: no locks yet.
pub mod Gaps
pub mod Maps
pub mod Undo
pub mod Moves
