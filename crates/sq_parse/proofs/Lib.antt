pub mod QueryChains
pub mod Levels
pub mod Places
pub mod Verdict
