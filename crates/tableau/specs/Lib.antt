pub mod Labels
pub mod Expansion
pub mod Positions
pub mod Continuations
pub mod Masks
pub mod Search
pub mod Theorems
pub mod Examples
