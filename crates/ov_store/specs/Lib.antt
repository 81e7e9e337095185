pub mod StoreState
pub mod Loading
pub mod SomeHeld
pub mod Answers
pub mod Finding
