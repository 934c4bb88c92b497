pub mod BitLemmas
pub mod OptionLemmas
pub mod YearLemmas
pub mod OccursLemmas
pub mod StartLemmas
pub mod LimitLemmas
pub mod VerdictLemmas
