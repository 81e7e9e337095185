pub mod References
pub mod Kept
pub mod Limits
pub mod Committed
