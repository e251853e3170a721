pub mod Buffers
pub mod Lines
pub mod Tapes
pub mod Readers
pub mod Laws
pub mod Listings
