pub mod SideLemmas
pub mod OrderLemmas
pub mod OneLemmas
pub mod SecondLemmas
pub mod NextLemmas
pub mod FoundLemmas
pub mod ApartLemmas
pub mod FurtherLemmas
pub mod FurtherOneLemmas
mod DifferenceExamples
