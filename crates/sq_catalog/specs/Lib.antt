pub mod Names
pub mod Sorts
