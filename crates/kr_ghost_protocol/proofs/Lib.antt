pub mod RecordGapRows
pub mod NextKeyGhostTables
