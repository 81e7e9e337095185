pub mod Seen
pub mod WalkLemmas
pub mod CompareLemmas
pub mod OnlyIds
pub mod EqualValues
