pub mod Merged
pub mod Merging
pub mod Totals
pub mod Demands
pub mod Kinds
