pub mod Images
pub mod FaultLemmas
