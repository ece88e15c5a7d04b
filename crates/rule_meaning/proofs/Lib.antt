pub mod Moments
pub mod Pushing
pub mod Properness
pub mod Saying
pub mod Rulebooks
pub mod Sheets
pub mod Examples
