pub mod Firsts
pub mod Puts
