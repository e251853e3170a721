pub mod Limits
pub mod Narrowing
