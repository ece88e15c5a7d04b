pub mod Texts
pub mod Trials
