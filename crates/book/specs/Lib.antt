pub mod Orders
pub mod Lists
pub mod Tables
