pub mod Requests
pub mod Monitors
pub mod Updates
