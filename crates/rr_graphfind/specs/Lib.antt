pub mod Order
pub mod Search
pub mod Found
pub mod PatternDays
