pub mod Agreeing
pub mod PiecesRead
pub mod Standing
pub mod Writes
