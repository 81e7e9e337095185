pub mod Serving
pub mod Opening
