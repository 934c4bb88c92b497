pub mod BackLemmas
pub mod DistinctLemmas
pub mod MadeSetLemmas
pub mod RowLemmas
pub mod PlacedLemmas
pub mod SequenceLemmas
pub mod SketchedLemmas
