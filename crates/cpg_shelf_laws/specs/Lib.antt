pub mod Causes
pub mod Sinks
pub mod Streams
pub mod Outputs
pub mod Endings
pub mod Lawful
pub mod Told
