pub mod Program
pub mod Small
pub mod Text
