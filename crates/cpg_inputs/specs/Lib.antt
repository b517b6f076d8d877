pub mod Halts
pub mod Files
pub mod Says
pub mod Shapes
pub mod Reading
pub mod Inputs
pub mod Steps
