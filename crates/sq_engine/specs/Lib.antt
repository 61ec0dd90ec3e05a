pub mod Engines
pub mod Admitting
pub mod Ticking
