pub mod EarlyFrozen
pub mod MergeExists
pub mod EntriesExist
pub mod RowsExist
pub mod TablesExist
