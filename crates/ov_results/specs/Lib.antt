pub mod Stored
pub mod Texts
