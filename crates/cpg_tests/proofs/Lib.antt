pub mod Unfrozen
