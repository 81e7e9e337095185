pub mod Unopened
pub mod Closings
pub mod Goings
pub mod Passings
pub mod Fed
pub mod Servings
pub mod Starts
