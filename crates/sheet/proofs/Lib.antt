mod Shown
mod Turns
