pub mod Joining
pub mod Identifiers
