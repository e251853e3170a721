pub mod Ranges
pub mod Trades
