pub mod Asking
pub mod Support
pub mod Pruning
pub mod Committing
