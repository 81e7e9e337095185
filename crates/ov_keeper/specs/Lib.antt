pub mod Views
pub mod Keeping
pub mod ListKeeper
pub mod CellCode
pub mod LineMap
pub mod VolatileKeeper
