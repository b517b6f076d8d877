pub mod SlotTrees
pub mod BoundLaws
pub mod GreaterLaws
pub mod Greatness
pub mod Where
pub mod WhereLaws
pub mod Scans
pub mod BothSpaces
