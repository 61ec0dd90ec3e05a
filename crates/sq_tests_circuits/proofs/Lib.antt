pub mod Samples
pub mod NoneBelow
pub mod Masses
pub mod Tables
