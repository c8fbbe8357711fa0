pub mod Arguments
pub mod Told
pub mod Founds
