pub mod Views
pub mod Telling
pub mod Watching
