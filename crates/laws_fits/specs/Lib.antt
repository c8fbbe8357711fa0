pub mod Fitting
pub mod Meeting
