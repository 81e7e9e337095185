pub mod EmptyLemmas
pub mod FileLemmas
pub mod CauseLemmas
