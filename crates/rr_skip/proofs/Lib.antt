pub mod MonthLemmas
pub mod GivenLemmas
pub mod RepeatLemmas
mod SkipExamples
mod ScaleExamples
pub mod MonthSumLemmas
pub mod TurnLemmas
pub mod WalkLemmas
pub mod OmitLemmas
pub mod MemberDayLemmas
pub mod SkipDaysLemmas
pub mod UntilLemmas
pub mod SkipSketchLemmas
pub mod ReadLemmas
pub mod PlainPartLemmas
pub mod PlainTextLemmas
pub mod JudgedLemmas
