pub mod Crews
pub mod Sums
pub mod Turns
pub mod Slots
pub mod Costs
pub mod Yields
