pub mod Model
pub mod Meaning
pub mod Ranges
pub mod Filling
pub mod Bits
