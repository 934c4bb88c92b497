mod Examples
pub mod KeyLemmas
pub mod EntryLemmas
pub mod RunLemmas
pub mod GroupLemmas
pub mod PairLemmas
