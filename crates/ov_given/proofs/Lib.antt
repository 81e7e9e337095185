pub mod Counting
pub mod Choosing
pub mod Declaring
pub mod InFront
