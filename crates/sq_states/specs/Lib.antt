pub mod Refusals
pub mod Empty
pub mod Keeps
pub mod Entering
pub mod Steps
pub mod Committing
