pub mod Variables
pub mod Tested
pub mod WaysTable
pub mod Counter
pub mod Walked
pub mod Wide
