pub mod Verdict
pub mod OneVerdict
