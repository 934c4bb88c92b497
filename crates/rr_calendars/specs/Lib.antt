pub mod Run
pub mod Fetched
pub mod Exit
