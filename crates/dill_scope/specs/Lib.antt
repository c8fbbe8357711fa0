pub mod Scopes
pub mod Forest
pub mod Keeping
