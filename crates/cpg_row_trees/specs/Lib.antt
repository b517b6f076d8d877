pub mod PlacesState
pub mod Places
pub mod PlaceHints
pub mod Slices
pub mod Listed
pub mod Trees
