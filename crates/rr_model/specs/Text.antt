-- What texts state, and what is printed.
pub mod Calendars
pub mod Digits
pub mod Event
pub mod ExtendedMoments
pub mod Lines
pub mod Lists
pub mod Moments
pub mod Passes
pub mod Refusals
pub mod RuleValues
pub mod Rules
pub mod Steps
pub mod UsedLines
pub mod WriteLaws
pub mod Written
