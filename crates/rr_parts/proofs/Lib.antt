mod PartsExamples
pub mod DayLemmas
pub mod RankLemmas
