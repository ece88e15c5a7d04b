pub mod Bits
pub mod Shown
pub mod Viability
pub mod First
