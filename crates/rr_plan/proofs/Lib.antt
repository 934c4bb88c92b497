pub mod FewLemmas
pub mod MoreLemmas
pub mod OneLemmas
pub mod SplitLemmas
pub mod AgreeLemmas
pub mod NeededLemmas
