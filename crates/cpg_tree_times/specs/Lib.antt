pub mod Values
pub mod Asked
pub mod AddedInBoth
pub mod Bounds
pub mod Greater
