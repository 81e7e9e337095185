pub mod PrunedAt
pub mod Short
pub mod MissingRows
pub mod PrunedColumns
pub mod Unclashed
pub mod Candidates
pub mod PrunedInTurn
pub mod SuitingRows
