pub mod Uuid
pub mod Value
pub mod Results
pub mod Reading
pub mod Writing
pub mod Capped
