pub mod MemberLemmas
pub mod ChoiceLemmas
pub mod FirstRefusal
pub mod RefusalLemmas
pub mod TextLemmas
pub mod VersionLemmas
