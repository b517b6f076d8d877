pub mod Shares
pub mod Queued
