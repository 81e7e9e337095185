pub mod Performing
pub mod Ending
pub mod Suiting
pub mod Storing
