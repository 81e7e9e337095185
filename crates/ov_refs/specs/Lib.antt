pub mod Targets
pub mod Holding
pub mod Linking
pub mod Counting
pub mod Placed
pub mod Whole
pub mod StoredKeys
pub mod KeysLeft
