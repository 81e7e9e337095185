pub mod Serving
pub mod Places
