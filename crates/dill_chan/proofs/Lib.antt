mod Chosen
mod Held
mod Nearing
mod Taking
mod Waiting
