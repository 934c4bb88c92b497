mod ItemExamples
pub mod OccurrenceLemmas
pub mod ValidSeriesLemmas
mod ValidPartsLemmas
pub mod ValidReadLemmas
mod ByteLemmas
mod TrimLemmas
mod WordLemmas
mod RuleTextLemmas
mod RuleReadLemmas
mod PushLemmas
mod WrittenLineLemmas
mod WrittenPassLemmas
pub mod ReadBackProofs
