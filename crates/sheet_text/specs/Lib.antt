pub mod Lines
pub mod Notes
pub mod Held
pub mod Opening
pub mod Rules
pub mod Sheets
