pub mod Queued
pub mod Held
pub mod Freeing
pub mod Refusing
pub mod Calls
