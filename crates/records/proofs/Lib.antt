pub mod Numbers
pub mod Letters
pub mod Decoded
pub mod Same
