pub mod Lettered
pub mod Rosters
