pub mod Best
pub mod Retuned
pub mod Asked
pub mod Tuned
pub mod Laws
pub mod RetunedLaws
