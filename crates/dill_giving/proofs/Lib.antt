mod Answered
mod Asking
mod Changing
mod Named
mod Unseen
