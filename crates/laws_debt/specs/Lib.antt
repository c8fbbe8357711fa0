pub mod Owed
pub mod Says
pub mod Flags
pub mod Closing
pub mod Steady
pub mod Debts
pub mod Laws
