pub mod Order
pub mod OrderLaws
pub mod Hash
pub mod Count
pub mod Truth
pub mod KeyBytes
pub mod Stored
