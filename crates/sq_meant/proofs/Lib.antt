pub mod Lexing
pub mod Statements
pub mod Reading
pub mod Meaning
pub mod Bounds
pub mod Ranges
