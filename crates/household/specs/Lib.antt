pub mod Calls
pub mod Plain
pub mod Questions
pub mod Law
pub mod Runs
