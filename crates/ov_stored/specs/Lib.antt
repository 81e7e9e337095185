pub mod Changing
pub mod Placing
pub mod Adding
pub mod DeltaModel
pub mod CellLists
pub mod Stored
pub mod Loading
pub mod Guessed
