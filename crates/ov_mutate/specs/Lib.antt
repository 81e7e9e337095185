pub mod Faults
pub mod Views
pub mod Computing
pub mod Remaining
