pub mod Nth
pub mod Ranks
