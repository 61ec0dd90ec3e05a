pub mod Judging
pub mod RelationLemmas
pub mod EmptyTables
pub mod Once
