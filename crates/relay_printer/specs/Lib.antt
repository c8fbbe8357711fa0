pub mod Back
pub mod Pieces
