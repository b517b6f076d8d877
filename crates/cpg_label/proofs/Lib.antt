pub mod Called
pub mod Steps
pub mod Lines
pub mod Fronts
pub mod Digits
