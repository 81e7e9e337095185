pub mod States
pub mod Sessions
pub mod Counting
pub mod Asking
pub mod Handling
pub mod Settling
pub mod Preparing
