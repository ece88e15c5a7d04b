pub mod Within
pub mod Joining
pub mod Codes
