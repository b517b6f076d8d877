pub mod Bounds
pub mod TellingRows
pub mod Ended
pub mod Untold
pub mod Arrivals
pub mod Unheard
pub mod Hearings
