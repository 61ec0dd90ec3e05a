pub mod CommaLemmas
pub mod ViewLemmas
