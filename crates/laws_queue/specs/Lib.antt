pub mod Lending
pub mod Kept
pub mod Stands
pub mod Well
pub mod Laws
pub mod Following
pub mod Settled
