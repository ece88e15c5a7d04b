pub mod Turns
pub mod Values
pub mod Writes
pub mod Parts
