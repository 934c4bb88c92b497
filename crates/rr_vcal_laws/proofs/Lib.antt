pub mod CounterpartLemmas
pub mod MemberLemmas
pub mod MonthlyLemmas
pub mod YearlyLemmas
pub mod CounterpartProofs
pub mod ValidRuleLemmas
