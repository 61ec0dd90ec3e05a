pub mod Bytes
pub mod Run
pub mod Symbols
pub mod Spelling
pub mod Closing
pub mod Reading
pub mod Fault
pub mod Piece
