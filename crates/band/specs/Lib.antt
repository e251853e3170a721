pub mod Bands
pub mod Tunnels
