mod Noting
mod Asking
mod Coming
pub mod Outcomes
