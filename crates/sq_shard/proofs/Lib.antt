pub mod Gathering
pub mod Hashing
pub mod Parting
pub mod Sharing
