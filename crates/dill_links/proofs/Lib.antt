mod Each
mod Rows
