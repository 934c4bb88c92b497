pub mod Apart
pub mod Changes
pub mod Laws
pub mod Moments
pub mod Names
pub mod Near
pub mod Occurrences
pub mod Spans
