pub mod Spelled
pub mod PathBytes
pub mod Fitting
pub mod MoreItems
