pub mod Told
pub mod Said
pub mod Trials
pub mod Tunes
