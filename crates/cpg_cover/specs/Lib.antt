pub mod Cover
pub mod Parts
pub mod Fewest
pub mod Late
