pub mod Below
pub mod Ready
