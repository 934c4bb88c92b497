pub mod RulesLemmas
mod SeriesExamples
mod TreeExamples
pub mod RepeatLemmas
pub mod CountedFarLemmas
pub mod SeriesTreeLemmas
pub mod SeriesRepeatLemmas
pub mod NumberLemmas
pub mod CountedLemmas
pub mod LastDayLemmas
pub mod SettledLemmas
pub mod CountsLemmas
pub mod AloneLemmas
