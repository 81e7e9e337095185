pub mod LeftLemmas
pub mod ComputingLemmas
pub mod KindLemmas
