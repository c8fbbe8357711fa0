mod Entered
mod Free
