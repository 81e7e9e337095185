pub mod Feeding
pub mod Entering
pub mod Running
