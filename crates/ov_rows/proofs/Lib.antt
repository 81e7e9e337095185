pub mod Maps
pub mod Names
pub mod Values
pub mod Nesting
pub mod Nested
pub mod BodyText
pub mod Listed
pub mod Spreading
