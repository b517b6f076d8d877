pub mod Text
pub mod Pieces
pub mod File
pub mod Causes
