pub mod Channels
pub mod Choosing
pub mod Meetings
pub mod Seats
