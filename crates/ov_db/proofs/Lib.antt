pub mod Stored
pub mod Keeping
pub mod Residing
pub mod HeldBy
pub mod IndexedRow
pub mod Answers
pub mod Opening
