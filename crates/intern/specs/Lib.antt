pub mod Links
pub mod Walk
pub mod Entry
pub mod Index
pub mod Settled
