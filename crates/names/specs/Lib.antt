pub mod Letters
pub mod Texts
pub mod Same
pub mod Rosters
