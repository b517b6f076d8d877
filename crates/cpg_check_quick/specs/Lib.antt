pub mod Order
pub mod SpannedRows
pub mod Sequences
pub mod Inputs
pub mod Bounds
pub mod Hearing
pub mod HeardRows
pub mod Listening
