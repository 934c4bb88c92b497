pub mod Entries
pub mod Groups
pub mod Runs
pub mod Pairs
