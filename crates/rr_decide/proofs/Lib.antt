pub mod AlikeLemmas
pub mod MergeLemmas
pub mod OrderLemmas
pub mod QuestionLemmas
pub mod QuietLemmas
pub mod StandsLemmas
pub mod WindowLemmas
pub mod BeginLemmas
