mod EndExamples
pub mod EndLemmas
pub mod EndLawProofs
pub mod LenientLawProofs
mod ReadLemmas
mod KeyLemmas
