pub mod Apart
pub mod Asked
pub mod Staging
