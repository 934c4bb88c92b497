mod CountingExamples
mod KindExamples
pub mod CountingLemmas
pub mod TreeLemmas
pub mod FirstLemmas
pub mod AheadLemmas
mod PositionLemmas
mod UptoLemmas
pub mod StretchLemmas
mod ManyLemmas
pub mod PassedOnLemmas
pub mod KindLemmas
pub mod CycleCountLemmas
pub mod PastLemmas
pub mod MemberCountLemmas
pub mod AgreeLemmas
pub mod WithoutLemmas
pub mod ExceptLemmas
