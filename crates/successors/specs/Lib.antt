pub mod Cells
pub mod Handing
pub mod Ways
pub mod Guides
pub mod Tables
pub mod Sights
