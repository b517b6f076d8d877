pub mod Head
pub mod GraphHead
