pub mod Begun
pub mod CoreMachine
pub mod Ending
pub mod Holding
pub mod Placing
