pub mod Entries
pub mod History
