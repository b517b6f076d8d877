pub mod Front
pub mod Labels
pub mod CubeText
pub mod ItemText
pub mod Lines
