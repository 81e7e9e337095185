pub mod Going
pub mod Mutating
pub mod Awaiting
pub mod Showing
