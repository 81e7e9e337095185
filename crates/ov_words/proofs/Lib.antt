pub mod WordsLemmas
pub mod NumberLemmas
