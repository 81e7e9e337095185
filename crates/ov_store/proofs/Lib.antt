pub mod AnswerLemmas
pub mod ResultLemmas
pub mod FoundLemmas
pub mod FormatLemmas
