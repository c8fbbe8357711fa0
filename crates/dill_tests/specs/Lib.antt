pub mod Brief
pub mod Briefly
