mod CalendarExamples
pub mod CalendarLawProofs
pub mod CalendarLemmas
pub mod CycleLemmas
pub mod FloorLemmas
pub mod PeriodicLemmas
pub mod SecondsLemmas
mod DescriptorExamples
pub mod RisingLemmas
pub mod ItemLemmas
mod WeekExamples
pub mod WeekLemmas
pub mod WholeLemmas
mod ChosenExamples
mod MemberExamples
pub mod MemberLemmas
pub mod ValidityProps
pub mod YearLemmas
pub mod RisingSetLemmas
pub mod MomentLemmas
pub mod CountLemmas
mod RuleExamples
mod FirstRefusalLemmas
pub mod StartLemmas
pub mod TreeLemmas
mod GraphExamples
pub mod LineExamples
mod ReadingExamples
pub mod TurnLemmas
mod VcalExamples
mod CounterpartExamples
mod MomentExamples
pub mod WrittenExamples
pub mod DaysAndTimesLemmas
pub mod ChoiceLemmas
pub mod OrderLemmas
pub mod WithEndLemmas
pub mod WithValueLemmas
pub mod YearOneLemmas
pub mod TestLemmas
pub mod SideLemmas
pub mod EqualLemmas
pub mod DividesLemmas
pub mod BackLemmas
