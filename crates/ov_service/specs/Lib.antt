pub mod Closing
pub mod Files
pub mod Databases
