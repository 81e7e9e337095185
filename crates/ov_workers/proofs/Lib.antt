pub mod Crossing
pub mod Frames
pub mod Bringing
pub mod Streams
pub mod Coming
