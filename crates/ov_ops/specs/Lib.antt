pub mod Outcomes
pub mod Shown
