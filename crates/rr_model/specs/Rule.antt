-- Rules: which are valid, what they choose, and when that repeats (RFC 5545, section 3.3.10).
pub mod Candidate
pub mod Chosen
pub mod Cycle
pub mod DaysAndTimes
pub mod Filled
pub mod Member
pub mod Plain
pub mod Repetition
pub mod Validity
