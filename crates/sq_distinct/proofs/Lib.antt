pub mod Above
pub mod Rising
