mod Examples
pub mod TakingLemmas
pub mod TallyLemmas
pub mod SortLemmas
pub mod ShiftLemmas
pub mod LastingLemmas
pub mod DaySetLemmas
pub mod ProfileLemmas
pub mod OrderLemmas
pub mod PlaceLemmas
pub mod FirstLemmas
pub mod GraphProfileLemmas
pub mod WalkLemmas
pub mod DivisorLemmas
