pub mod Lending
pub mod Pairs
pub mod Slots
pub mod Whole
