pub mod Nodes
pub mod Contents
pub mod Equal
