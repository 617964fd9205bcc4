pub mod Called
pub mod Pieces
pub mod Laws
