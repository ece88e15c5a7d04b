pub mod Handing
pub mod Dropping
pub mod Growing
pub mod Filling
pub mod Tabling
pub mod Expanding
