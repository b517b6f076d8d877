pub mod Fewest
pub mod Tolerating
pub mod AsBefore
pub mod Kept
pub mod Answered
