pub mod Making
pub mod Carrying
