pub mod Pieces
pub mod working
