pub mod Behind
pub mod Bounds
pub mod Leaving
pub mod Piecing
