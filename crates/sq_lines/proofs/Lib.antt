mod JsonOf
mod Members
mod TableLemmas
pub mod FitLemmas
mod Places
pub mod CutLemmas
pub mod PieceLemmas
pub mod Saying
