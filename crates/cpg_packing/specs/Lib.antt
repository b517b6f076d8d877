pub mod Packable
pub mod PackBytes
