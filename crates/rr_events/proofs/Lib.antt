pub mod BeginLemmas
pub mod CuttingLemmas
pub mod PartLemmas
pub mod LineLemmas
pub mod EmptyLemmas
pub mod ParameterLemmas
pub mod FindLemmas
pub mod RawLemmas
pub mod SegmentLemmas
mod Examples
