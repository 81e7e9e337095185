pub mod Releasing
pub mod Waiting
pub mod Rooms
pub mod Answered
