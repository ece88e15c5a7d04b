pub mod Figures
pub mod Decimal
pub mod Letters
pub mod Scans
pub mod Cuts
pub mod Bounds
