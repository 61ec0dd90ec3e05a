pub mod Listings
pub mod Stops
pub mod Values
pub mod Stages
pub mod BlockFits
pub mod Walks
pub mod Answers
