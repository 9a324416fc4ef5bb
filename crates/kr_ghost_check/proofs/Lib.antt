pub mod Grouped
pub mod Asked
pub mod Counted
pub mod CaseCount
