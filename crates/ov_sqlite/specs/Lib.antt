pub mod Changing
pub mod Writing
pub mod Renewing
pub mod Rewriting
pub mod Joining
pub mod Joined
pub mod Reading
