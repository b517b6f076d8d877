pub mod Share
pub mod Plan
