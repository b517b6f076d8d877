pub mod ExtraLists
pub mod Verdicts
