pub mod DetailLemmas
pub mod PageLemmas
pub mod PutLemmas
