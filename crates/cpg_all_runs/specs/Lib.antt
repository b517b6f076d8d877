pub mod Active
pub mod FirstAlike
pub mod Listing
pub mod Peaks
pub mod Placed
pub mod Runs
pub mod Sweep
