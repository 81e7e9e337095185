pub mod Twice
pub mod Placing
pub mod Changes
pub mod Modified
pub mod Names
pub mod Kept
pub mod Adding
pub mod Watched
