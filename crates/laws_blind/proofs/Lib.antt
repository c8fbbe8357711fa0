pub mod Giving
pub mod Calling
pub mod Hearing
