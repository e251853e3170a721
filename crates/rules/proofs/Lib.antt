pub mod Rounding
pub mod Numbers
