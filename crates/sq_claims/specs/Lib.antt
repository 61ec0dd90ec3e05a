pub mod Claims
pub mod Hands
