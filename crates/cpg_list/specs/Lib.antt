pub mod Found
pub mod Learning
pub mod Frames
pub mod Made
pub mod Listed
pub mod Narrowing
pub mod TimeOrder
