pub mod Runs
pub mod Changes
pub mod Keys
pub mod Looking
pub mod Inside
pub mod Extremes
pub mod Ends
