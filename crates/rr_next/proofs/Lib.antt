pub mod DayLemmas
pub mod NextLemmas
pub mod WindowLemmas
pub mod TakenLemmas
mod WindowExamples
