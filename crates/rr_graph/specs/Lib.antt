pub mod Answers
pub mod EndTypes
pub mod FirstOccurrence
pub mod Ranges
pub mod Moved
pub mod Written
pub mod PatternJson
