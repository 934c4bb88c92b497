mod RulePartLemmas
mod PartOrderLemmas
mod TextExamples
pub mod BesideLemmas
mod LineEndProofs
mod ScanLemmas
mod CaseLemmas
mod GivesLemmas
mod FoldedLemmas
pub mod PushLemmas
mod WrittenPartLemmas
mod WrittenRuleLemmas
pub mod WrittenPassLemmas
pub mod WrittenSeriesLemmas
