pub mod Schemas
pub mod Running
