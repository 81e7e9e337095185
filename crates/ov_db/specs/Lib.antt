pub mod KeptDatabase
pub mod Committing
pub mod Opening
pub mod OpensFrom
pub mod Faults
pub mod Residing
pub mod Lookups
