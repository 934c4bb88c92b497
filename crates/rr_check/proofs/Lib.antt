mod SoundnessExamples
mod LoopLemmas
mod PartLemmas
mod RefusalLemmas
pub mod RepetitionLemmas
pub mod RuleCycleLemmas
pub mod SeriesCycleLemmas
pub mod ShiftLemmas
pub mod SoundnessLemmas
pub mod UnitLemmas
pub mod WeekShiftLemmas
