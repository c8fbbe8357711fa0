pub mod Bytes
pub mod Lines
pub mod Heads
pub mod Reading
pub mod Writing
pub mod Laws
pub mod Rows
