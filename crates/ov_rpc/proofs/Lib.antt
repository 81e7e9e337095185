pub mod Members
pub mod Requests
pub mod Appending
