pub mod Equal
pub mod Placing
pub mod Plain
pub mod Repeats
pub mod SameRows
pub mod Showing
