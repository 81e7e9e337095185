pub mod LinkStates
pub mod Accepting
pub mod Stream
pub mod Reading
pub mod Writing
pub mod Bringing
pub mod Inlet
