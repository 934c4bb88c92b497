pub mod SetPositions
pub mod Ruling
pub mod Walk
pub mod Steps
pub mod Lazies
