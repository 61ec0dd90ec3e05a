pub mod Relations
pub mod Programs
