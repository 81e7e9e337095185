pub mod Entering
pub mod Bringing
pub mod Suiting
