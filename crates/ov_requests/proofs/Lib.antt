pub mod Drawing
pub mod Earliest
pub mod Asked
