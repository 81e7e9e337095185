pub mod Balance
pub mod Beginning
pub mod Cut
pub mod Tree
pub mod Message
pub mod Frame
pub mod Method
