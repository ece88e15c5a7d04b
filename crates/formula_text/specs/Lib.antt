pub mod Operators
pub mod Formulas
pub mod Grammar
pub mod Trees
