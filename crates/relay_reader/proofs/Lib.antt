pub mod Cutting
pub mod Nested
pub mod Reasons
pub mod Said
pub mod Started
pub mod Stepping
