pub mod Readings
pub mod Keeping
pub mod OneReading
pub mod Soundness
pub mod PartsRead
pub mod Fitting
