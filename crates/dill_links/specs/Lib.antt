pub mod Changing
pub mod Lending
