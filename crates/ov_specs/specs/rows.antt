pub mod Lines
pub mod Database
pub mod Version
pub mod Suits
pub mod RowNames
pub mod Changed
pub mod Cells
pub mod Held
