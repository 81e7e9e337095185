pub mod Following
pub mod Stepping
pub mod Passing
pub mod Leaving
pub mod Opening
