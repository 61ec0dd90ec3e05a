pub mod Causes
pub mod MemSource
pub mod MemSink
pub mod Standard
pub mod Counters
