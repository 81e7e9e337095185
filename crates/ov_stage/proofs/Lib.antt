pub mod Asking
pub mod Lookups
pub mod Meeting
pub mod Narrowing
pub mod Stages
pub mod Merging
pub mod ToldApart
