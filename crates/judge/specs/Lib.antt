pub mod Formulas
pub mod Histories
pub mod Holding
pub mod Marks
pub mod Judging
