pub mod Clock
pub mod Pipes
pub mod Session
pub mod Endings
pub mod Connections
pub mod Environment
pub mod Offers
pub mod Memory
