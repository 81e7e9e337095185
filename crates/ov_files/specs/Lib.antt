pub mod Calls
pub mod Refusing
pub mod Causes
pub mod Looking
pub mod Found
pub mod Whole
pub mod Once
