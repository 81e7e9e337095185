pub mod Naming
pub mod Rows
pub mod Waiting
