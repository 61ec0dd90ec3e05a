pub mod Words
pub mod Trees
pub mod Spelling
pub mod Sources
pub mod Refusal
pub mod Parser
pub mod Reading
pub mod Examples
