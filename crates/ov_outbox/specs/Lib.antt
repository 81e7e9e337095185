pub mod Frames
pub mod Waits
pub mod Outbox
pub mod Asking
