pub mod BasicLemmas
pub mod ExtendedLemmas
pub mod DigitLemmas
pub mod MomentTextExamples
pub mod MomentTextLemmas
pub mod PhysicalLemmas
pub mod PrintLemmas
pub mod PrintedLemmas
pub mod UnfoldLemmas
pub mod WrittenLemmas
pub mod FoldedLineLemmas
pub mod WrittenByteLemmas
pub mod WrittenListLemmas
pub mod WrittenValueLemmas
pub mod PlainTextLemmas
pub mod WrittenExtendedLemmas
mod Utf8Lemmas
pub mod StepLemmas
pub mod InYearsLemmas
pub mod NumberLemmas
mod OffsetLemmas
pub mod BlankLemmas
pub mod WordLemmas
pub mod YearLemmas
