pub mod Keeping
pub mod Small
pub mod Following
