pub mod Calendars
pub mod Rules
pub mod Values
