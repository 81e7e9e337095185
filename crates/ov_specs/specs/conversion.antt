pub mod Carried
pub mod Converted
