pub mod Supporting
pub mod Changes
pub mod Linked
pub mod Counting
