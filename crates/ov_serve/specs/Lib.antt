pub mod Serving
pub mod Progress
