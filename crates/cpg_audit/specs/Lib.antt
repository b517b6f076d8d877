pub mod Gives
pub mod Excluded
pub mod Narrowing
