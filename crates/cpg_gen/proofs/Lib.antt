pub mod Advancing
pub mod Steps
pub mod Names
pub mod Limits
