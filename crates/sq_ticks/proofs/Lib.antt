mod Places
mod Reports
mod Going
mod ChangeLemmas
mod SumLemmas
pub mod Judging
mod TableLemmas
mod RelationLemmas
mod ProgramLemmas
mod UpdateLemmas
mod OverLemmas
mod TickLemmas
mod Playing
pub mod TextLemmas
pub mod LongTexts
pub mod CutLemmas
mod Behind
pub mod PlayingOn
