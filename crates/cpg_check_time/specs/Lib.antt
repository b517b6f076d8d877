pub mod Columns
pub mod Lateness
pub mod Frozen
pub mod Clashes
pub mod Delays
pub mod Inputs
pub mod Ready
pub mod Questions
