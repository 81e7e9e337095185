pub mod IndexKeys
pub mod KeyOrder
pub mod Indexing
pub mod Nested
pub mod Changing
pub mod Collecting
