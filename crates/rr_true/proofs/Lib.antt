pub mod ApartLemmas
mod Examples
pub mod MomentLemmas
pub mod NearLemmas
pub mod OffsetLemmas
pub mod SearchLemmas
pub mod SpanLemmas
pub mod VerdictLemmas
