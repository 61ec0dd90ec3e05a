pub mod Numbers
pub mod Ticks
pub mod Kept
pub mod Accepted
pub mod Printed
pub mod Running
pub mod Stops
