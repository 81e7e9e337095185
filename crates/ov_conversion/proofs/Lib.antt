pub mod KeyedRows
pub mod SupportedRows
pub mod PrunedRows
pub mod Suiting
pub mod Commits
