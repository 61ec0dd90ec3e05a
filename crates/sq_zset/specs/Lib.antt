pub mod Pairs
pub mod Range
pub mod Inside
pub mod Merge
pub mod Collecting
pub mod GroupLaws
pub mod Loops
