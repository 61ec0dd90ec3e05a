mod Closing
mod Putting
mod Settling
mod Standing
