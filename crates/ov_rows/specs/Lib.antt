pub mod Lending
pub mod Named
pub mod Nested
pub mod Resident
pub mod Spread
pub mod Body
