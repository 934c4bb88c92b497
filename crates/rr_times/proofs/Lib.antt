pub mod MergeLemmas
pub mod SetLemmas
pub mod SplitLemmas
pub mod TakeLemmas
mod RemoveLemmas
pub mod ItemLemmas
