pub mod Checks
pub mod Outcomes
pub mod Answering
pub mod Hears
pub mod Notes
pub mod Strikes
pub mod Sound
pub mod Runs
