pub mod Named
pub mod HeldNames
pub mod Sessions
pub mod Given
pub mod Calls
pub mod Tables
