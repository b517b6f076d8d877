pub mod StreamFetch
pub mod Followed
pub mod TunedLines
