pub mod Blanks
pub mod Places
pub mod Texts
pub mod Cuts
pub mod Values
pub mod Splits
pub mod Joins
