pub mod CountLemmas
pub mod KeyLemmas
