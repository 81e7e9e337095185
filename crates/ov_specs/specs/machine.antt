pub mod Machine
pub mod History
pub mod Streams
pub mod Suiting
pub mod Blocked
pub mod Settling
