pub mod Tables
pub mod Cells
pub mod Lines
pub mod Fit
pub mod Cutting
