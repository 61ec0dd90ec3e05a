pub mod Chains
pub mod Levels
pub mod Shorter
pub mod Operands
