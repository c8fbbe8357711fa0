pub mod Asking
pub mod Endings
pub mod Needs
pub mod Timing
pub mod Turned
