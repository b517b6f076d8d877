mod Counts
mod TellingRowLists
mod Sides
mod PartLaws
mod Facts
mod Bounded
mod Untolds
mod ArrivalLaws
pub mod Endings
mod Framed
