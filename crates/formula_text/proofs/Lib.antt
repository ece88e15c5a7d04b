pub mod Readings
pub mod Parsing
pub mod Once
pub mod Accepting
pub mod Same
pub mod Standing
