pub mod KvlTables
pub mod RowLaws
pub mod KvlRows
pub mod ImRows
pub mod RangeKeyRows
