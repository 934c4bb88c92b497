pub mod Listing
pub mod Meanings
pub mod Offsets
pub mod Past
pub mod Steady
