pub mod Kept
pub mod Narrow
pub mod Timely
