pub mod Levels
pub mod Work
