pub mod Drawing
pub mod Reading
pub mod Waiting
pub mod Params
pub mod Asked
