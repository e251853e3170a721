pub mod Slots
pub mod Orders
pub mod Edits
