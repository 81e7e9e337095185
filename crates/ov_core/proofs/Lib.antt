pub mod Steps
pub mod Counted
pub mod Opening
pub mod Leaving
