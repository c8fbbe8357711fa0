pub mod Bound
pub mod States
pub mod Waits
pub mod Ends
pub mod Goes
pub mod Closes
