pub mod Finding
pub mod Asking
pub mod Entering
pub mod Answering
pub mod Releasing
