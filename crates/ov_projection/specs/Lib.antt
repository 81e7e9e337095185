pub mod Errors
pub mod Shown
