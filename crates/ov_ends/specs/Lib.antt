pub mod Ends
pub mod Writing
pub mod States
