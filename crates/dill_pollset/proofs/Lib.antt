mod Least
mod Placing
