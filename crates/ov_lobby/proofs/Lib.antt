mod Guests
mod Places
