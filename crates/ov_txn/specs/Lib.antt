pub mod Results
pub mod Performing
pub mod Replying
pub mod Attempting
