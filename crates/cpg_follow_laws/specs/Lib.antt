pub mod Follow
pub mod Streams
pub mod Ranges
pub mod Sent
