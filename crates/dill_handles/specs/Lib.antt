pub mod Handles
pub mod Codes
pub mod Faults
