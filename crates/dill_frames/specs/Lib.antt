pub mod Judging
pub mod Prefix
pub mod Suffix
pub mod Terminal
pub mod Laws
pub mod Rows
