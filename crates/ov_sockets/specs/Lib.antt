pub mod Faults
pub mod Address
pub mod Links
