mod ListedLemmas
mod ListExamples
mod ScanLemmas
mod TextLemmas
pub mod ColonLemmas
pub mod FoldingLemmas
pub mod LineEndLemmas
pub mod WrittenLineLemmas
pub mod PassLemmas
pub mod KeptLemmas
pub mod DateCutLemmas
pub mod BesideLemmas
pub mod OpenNameLemmas
