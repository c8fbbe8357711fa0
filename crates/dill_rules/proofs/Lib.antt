pub mod Bare
pub mod Opening
