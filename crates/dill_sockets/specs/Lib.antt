pub mod Faults
pub mod Entering
pub mod Looking
pub mod Free
