pub mod Answers
pub mod Lookahead
