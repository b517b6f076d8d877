pub mod Admission
pub mod Width
pub mod Timing
