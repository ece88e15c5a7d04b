pub mod Rows
pub mod Trails
pub mod Layers
pub mod Outcomes
pub mod Questions
pub mod Calls
