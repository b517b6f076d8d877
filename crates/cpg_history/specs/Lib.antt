pub mod Event
pub mod Fetch
