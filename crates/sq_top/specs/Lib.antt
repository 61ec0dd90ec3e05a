pub mod Prefixes
pub mod Statuses
pub mod Found
