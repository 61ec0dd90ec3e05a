pub mod Drafts
pub mod Steps
pub mod Blocks
pub mod Plans
pub mod Keyed
pub mod Program
pub mod ProgramWalk
