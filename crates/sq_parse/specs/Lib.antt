pub mod Parts
pub mod Causes
