pub mod Volumes
pub mod Prices
pub mod Walks
pub mod Results
pub mod Trades
