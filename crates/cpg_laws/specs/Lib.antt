pub mod Tables
pub mod GraphFiles
pub mod Graphs
pub mod Refusals
pub mod DocumentFaults
pub mod Packs
