pub mod Books
pub mod Fronts
pub mod Pigeons
pub mod Putting
pub mod Rules
