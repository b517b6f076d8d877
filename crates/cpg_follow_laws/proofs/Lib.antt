pub mod Reports
pub mod Follow
pub mod Rising
pub mod Room
pub mod Streams
pub mod Ranges
pub mod Sent
