pub mod Answers
pub mod FileWords
pub mod Forms
pub mod Line
pub mod Matches
pub mod Number
pub mod Parts
