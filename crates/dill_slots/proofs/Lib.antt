pub mod Finding
pub mod Keeping
pub mod Kept
pub mod Located
pub mod Room
pub mod Consistent
