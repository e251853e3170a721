pub mod Between
pub mod Centres
pub mod Days
