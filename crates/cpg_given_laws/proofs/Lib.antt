pub mod Runs
pub mod Measures
pub mod Width
pub mod Admission
pub mod Kept
pub mod Members
pub mod Opened
pub mod Names
pub mod Documents
pub mod Read
pub mod Without
mod Examples
