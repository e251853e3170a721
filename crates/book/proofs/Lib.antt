pub mod Filling
pub mod Places
pub mod Shares
pub mod Sides
