pub mod Single
pub mod Hears
pub mod Present
pub mod Active
pub mod Absent
