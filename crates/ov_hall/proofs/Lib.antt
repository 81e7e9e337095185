pub mod Endings
mod Sides
pub mod Pairs
pub mod Seats
pub mod Running
mod Halls
mod Noting
mod Gone
pub mod Listed
pub mod Giving
pub mod Guests
