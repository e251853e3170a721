pub mod Framed
pub mod Laws
pub mod Listed
pub mod OnlyText
