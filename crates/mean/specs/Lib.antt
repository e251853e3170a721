pub mod Averages
pub mod Means
pub mod Summaries
pub mod Tunnels
