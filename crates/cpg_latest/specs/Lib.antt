pub mod Latest
pub mod Tracks
pub mod Laws
pub mod Timed
pub mod Course
pub mod Lanes
pub mod Over
