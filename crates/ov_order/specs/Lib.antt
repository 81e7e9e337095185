pub mod OrderBook
pub mod Rings
