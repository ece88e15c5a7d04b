pub mod Limits
pub mod Atoms
pub mod Shown
