pub mod Endings
pub mod Faults
pub mod Words
pub mod Causes
