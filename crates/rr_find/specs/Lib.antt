pub mod Counted
pub mod ByCounts
pub mod Found
