pub mod Making
pub mod Ticks
