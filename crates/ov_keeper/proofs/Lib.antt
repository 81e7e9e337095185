pub mod LineLemmas
pub mod FormatLemmas
