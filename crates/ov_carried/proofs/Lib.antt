pub mod Made
pub mod Columns
