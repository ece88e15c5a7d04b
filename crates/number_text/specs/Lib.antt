pub mod Chains
pub mod Variables
pub mod Sums
pub mod Values
