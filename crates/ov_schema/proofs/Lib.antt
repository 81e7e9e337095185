pub mod NamedLemmas
pub mod FittingLemmas
pub mod TextLemmas
pub mod PartLemmas
