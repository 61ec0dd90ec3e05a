pub mod Knowing
pub mod Reading
pub mod Gathering
pub mod Pairing
