pub mod Reading
pub mod Rows
pub mod Shape
pub mod Ranges
pub mod Names
pub mod Document
pub mod WrittenTree
pub mod RawOf
