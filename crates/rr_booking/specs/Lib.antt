pub mod Booking
pub mod Beside
pub mod Parsed
