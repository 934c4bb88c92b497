pub mod Between
pub mod Days
pub mod Seen
pub mod Walks
pub mod Zones
